-- What a summary says of a port, and how long its text is.
use Rattle.std.proofs.Common.{◌≡◌, ℕ, ◌-◌, ◌≤◌, Bool, true, false, List, [], ◌∷◌, length, refl, sym, ap, ◌∙◌, arith}
use Rattle.std.proofs.{Common.{length-append, ⊎_elim}, lemmas.Bool.{leb-true, leb-false, le-leb, ltb-false, or_cases}}
use Rattle.std.{proofs.lemmas.Bool.{or_left, or_right}, specs.Prelude.{nat_le, nat_lt, min, not, if◌then◌else◌}}
use Rattle.item_terms.specs.Bytes.{space, comma}
use Rattle.dir_values.specs.{declared.port_range.PortRange.PortRange, Ports.{Ports, last_port, in_range, in_ranges}}
use Rattle.dir_values.specs.Ports.{accepts, range_text, entries_text}
use Rattle.exit_summary.specs.{Policies.accepts_port, Summaries.{accepted_ranges, rejected_ranges, accepted_ports}}
use Rattle.exit_summary.specs.Summaries.{rejected_ports, every_port, size_of, most_bytes, most_behind_word}
use Rattle.exit_summary.specs.Summaries.{ranges_fitting, cut_summary, are_long, shorter, of_ranges, SummariesAccept}
use Rattle.exit_summary.{specs.Summaries.{SummariesAcceptNoMore, SummariesAreShort}, proofs.Fitting.taken_by}
use Rattle.exit_summary.proofs.{Fitting.range_short, RangeLaws.ranges_ports}

not_not : (a b : Bool) → a ≡ not b → not a ≡ b
not_not a true is = ap not is
not_not a false is = ap not is

-- every port is in the range of all
in_every : (port : ℕ) → 1 ≤ port → port ≤ last_port → in_ranges every_port port ≡ true
in_every port one most =
    let low : nat_le 1 port ≡ true = le-leb 1 port one in
    let high : nat_le port last_port ≡ true = le-leb port last_port most in
    rw (low, high) refl

-- the first of two summaries, or the second
abbrev either : Ports → Ports → Bool → Ports
either first second is_first = if is_first then first else second

-- where there are both ranges that are accepted and ranges that are rejected, the shorter text is taken
pub both_sides : (first second : List PortRange) → 1 ≤ length first → 1 ≤ length second
    → of_ranges first second ≡ shorter (accepted_ports first) (rejected_ports second)
both_sides [] second some other = absurd (omega arith)
both_sides (range ∷ more) [] some other = absurd (omega arith)
both_sides (range ∷ more) (next ∷ others) some other = refl

uncut : (first second : List PortRange) (port : ℕ) (passes : Bool) → 1 ≤ port → port ≤ last_port
    → are_long (accepted_ports first) (rejected_ports second) ≡ false → in_ranges first port ≡ passes
    → in_ranges second port ≡ not passes → accepts (of_ranges first second) port ≡ passes
uncut [] second port passes one most short inside outside = ap not (in_every port one most) ∙ inside
uncut (range ∷ more) [] port passes one most short inside outside =
    in_every port one most ∙ not_not false passes outside
uncut (range ∷ more) (other ∷ others) port passes one most short inside outside =
    let first = accepted_ports (range ∷ more) in
    let second = rejected_ports (other ∷ others) in
    let order = nat_le (size_of first) (size_of second) in
    let taken : shorter first second ≡ either first second order =
    ap (λ (b : Bool). if b then cut_summary first.ranges else either first second order) short in
    ap (λ (p : Ports). accepts p port) taken
    ∙ elim order as (λ b. accepts (either first second b) port ≡ passes) [
      | true ↦ inside
      | false ↦ not_not (in_ranges (other ∷ others) port) passes outside
    ]

pub accept : SummariesAccept
accept items port one most short =
    uncut (accepted_ranges items) (rejected_ranges items) port (accepts_port items port) one most short
    (ranges_ports (accepts_port items) port one most) (ranges_ports (λ other. not (accepts_port items other)) port one most)

-- a port of ranges that fit is a port of the ranges
fitting_in : (room : ℕ) (ranges : List PortRange) (port : ℕ) → in_ranges (ranges_fitting room ranges) port ≡ true
    → in_ranges ranges port ≡ true
fitting_in room [] port = λ has. has
fitting_in room (range ∷ rest) port =
    let left = room - taken_by range in
    let its = in_range range port in
    elim (nat_le (taken_by range) room)
    as (λ b. in_ranges (if b then range ∷ ranges_fitting left rest else []) port ≡ true
    → in_ranges (range ∷ rest) port ≡ true) [
      | true ↦ λ has. ⊎_elim (λ first. or_left its (in_ranges rest port) first)
          (λ more. or_right its (in_ranges rest port) (fitting_in left rest port more))
          (or_cases its (in_ranges (ranges_fitting left rest) port) has)
      | false ↦ λ has. absurd cc
    ]

no_more : (first second : List PortRange) (port : ℕ) (passes : Bool) → 1 ≤ port → port ≤ last_port
    → in_ranges first port ≡ passes → in_ranges second port ≡ not passes
    → accepts (of_ranges first second) port ≡ true → passes ≡ true
no_more [] second port passes one most inside outside = λ has.
    let none : not (in_ranges every_port port) ≡ false = ap not (in_every port one most) in
    absurd cc
no_more (range ∷ more) [] port passes one most inside outside = λ has. sym (not_not false passes outside)
no_more (range ∷ more) (other ∷ others) port passes one most inside outside =
    let first = accepted_ports (range ∷ more) in
    let second = rejected_ports (other ∷ others) in
    let order = nat_le (size_of first) (size_of second) in
    elim (are_long first second)
    as (λ b. accepts (if b then cut_summary (range ∷ more) else either first second order) port ≡ true → passes ≡ true) [
      | true ↦ λ has. sym inside ∙ fitting_in most_behind_word (range ∷ more) port has
      | false ↦ elim order as (λ b. accepts (either first second b) port ≡ true → passes ≡ true) [
        | true ↦ λ has. sym inside ∙ has
        | false ↦ λ has. sym (not_not (in_ranges (other ∷ others) port) passes outside) ∙ has
      ]
    ]

pub accept_no_more : SummariesAcceptNoMore
accept_no_more items port one most =
    no_more (accepted_ranges items) (rejected_ranges items) port (accepts_port items port) one most
    (ranges_ports (accepts_port items) port one most) (ranges_ports (λ other. not (accepts_port items other)) port one most)

-- ranges that fit have no longer text than there is room
fitting_short : (room separator : ℕ) (ranges : List PortRange)
    → length (entries_text separator (ranges_fitting room ranges)) ≤ room
fitting_short room separator [] = omega arith
fitting_short room separator (range ∷ rest) =
    let left = room - taken_by range in
    let by : (b : Bool) → nat_le (taken_by range) room ≡ b
    → length (entries_text separator (if b then range ∷ ranges_fitting left rest else [])) ≤ room =
    λ b. elim b as (λ b. nat_le (taken_by range) room ≡ b
    → length (entries_text separator (if b then range ∷ ranges_fitting left rest else [])) ≤ room) [
      | true ↦ λ fits.
          let within = leb-true (taken_by range) room fits in
          let more = fitting_short left comma rest in
          omega (arith, within, more, length-append (range_text range) (entries_text comma (ranges_fitting left rest)))
      | false ↦ λ fits. omega arith
    ] in
    by (nat_le (taken_by range) room) refl

every_short : (accept : Bool) → size_of (record { accept = accept; ranges = every_port }) ≤ most_bytes
every_short accept =
    let range : PortRange = record { low = 1; high = last_port } in
    let text = range_short range (omega arith) (omega arith) in
    let all : length (entries_text space every_port) ≤ 12 =
    omega (arith, text, length-append (range_text range) []) in
    elim accept as (λ b. size_of (record { accept = b; ranges = every_port }) ≤ most_bytes) [
      | true ↦ omega (arith, all)
      | false ↦ omega (arith, all)
    ]

one_short : (first second : List PortRange) → size_of (of_ranges first second) ≤ most_bytes
one_short [] second = every_short false
one_short (range ∷ more) [] = every_short true
one_short (range ∷ more) (other ∷ others) =
    let first = accepted_ports (range ∷ more) in
    let second = rejected_ports (other ∷ others) in
    let a = size_of first in
    let r = size_of second in
    let cut_short = fitting_short most_behind_word space (range ∷ more) in
    let by : (b t : Bool) → nat_lt most_bytes (min a r) ≡ b → nat_le a r ≡ t
    → size_of (if b then cut_summary (range ∷ more) else either first second t) ≤ most_bytes =
    λ b t. elim b as (λ b. nat_lt most_bytes (min a r) ≡ b → nat_le a r ≡ t
    → size_of (if b then cut_summary (range ∷ more) else either first second t) ≤ most_bytes) [
      | true ↦ λ long order. omega (arith, cut_short)
      | false ↦ λ short. elim t as (λ t. nat_le a r ≡ t → size_of (either first second t) ≤ most_bytes) [
        | true ↦ λ order.
            let m = ltb-false most_bytes (min a r) short in
            let le = leb-true a r order in
            let goal : a ≤ most_bytes = omega (arith, m, le) in
            goal
        | false ↦ λ order.
            let m = ltb-false most_bytes (min a r) short in
            let lt = leb-false a r order in
            let goal : r ≤ most_bytes = omega (arith, m, lt) in
            goal
      ]
    ] in
    by (nat_lt most_bytes (min a r)) (nat_le a r) refl refl

pub short : SummariesAreShort
short items = one_short (accepted_ranges items) (rejected_ranges items)
