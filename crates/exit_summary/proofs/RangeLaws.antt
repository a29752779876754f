-- The ranges of the ports that pass a test: they are apart, and have these ports.
use Rattle.std.proofs.Common.{◌≡◌, ℕ, zero, suc, ◌+◌, ◌<◌, ◌≤◌, Bool, true, false, List, [], ◌∷◌, length, refl, sym, ap}
use Rattle.std.proofs.{Common.{◌∙◌, arith, ⊎_elim}, lemmas.Bool.{and_from, le-leb, lt-leb, eqb-true, eqb-false}}
use Rattle.std.{proofs.lemmas.Bool.cases_lt, specs.Prelude.{nat_le, ◌==◌, if◌then◌else◌}}
use Rattle.dir_values.specs.{declared.port_range.PortRange.PortRange, Ports.{last_port, in_ranges, are_apart}}
use Rattle.dir_values.{specs.Ports.are_ranges, proofs.Apart.{first_apart, apart_first}}
use Rattle.exit_summary.specs.PortRanges.{with_ports, ranges_down, ranges_of, RangesAreApart, RangesHaveTheirPorts}

-- a stretch of ports
abbrev span : ℕ → ℕ → PortRange
span low high = record { low = low; high = high }

-- one port in front of ranges of later ports
abbrev put : ℕ → PortRange → List PortRange → Bool → List PortRange
put port first rest next = if next then span port first.high ∷ rest else span port port ∷ first ∷ rest

-- ---- they are apart

-- ranges that are apart from a port on are so from an earlier one on
less_far : (next other : ℕ) (ranges : List PortRange) → other ≤ next → are_apart next ranges ≡ true
    → are_apart other ranges ≡ true
less_far next other [] le apart = refl
less_far next other (range ∷ rest) le apart =
    let is = first_apart next range rest apart in
    let from = is.from in
    apart_first other range rest
    (record { from = omega (arith, from, le); up = is.up; last = is.last; later = is.later })

-- one port in front of ranges that are apart from it on
one_apart : (port : ℕ) (later : List PortRange) → port ≤ last_port → are_apart (port + 1) later ≡ true
    → are_apart port (with_ports port port later) ≡ true
one_apart port [] small apart =
    apart_first port (span port port) [] (record { from = omega arith; up = omega arith; last = small; later = refl })
one_apart port (first ∷ rest) small apart =
    let is = first_apart (port + 1) first rest apart in
    let from = is.from in
    let up = is.up in
    let by : (b : Bool) → (port + 1 == first.low) ≡ b → are_apart port (put port first rest b) ≡ true =
    λ b. elim b as (λ b. (port + 1 == first.low) ≡ b → are_apart port (put port first rest b) ≡ true) [
      | true ↦ λ next. apart_first port (span port first.high) rest
          (record { from = omega arith; up = omega (arith, from, up); last = is.last; later = is.later })
      | false ↦ λ gap.
          let ne = eqb-false (port + 1) first.low gap in
          let far : port + 2 ≤ first.low = omega (arith, from, ne) in
          let later = apart_first (port + 2) first rest
          (record { from = far; up = is.up; last = is.last; later = is.later }) in
          apart_first port (span port port) (first ∷ rest)
          (record { from = omega arith; up = omega arith; last = small; later = later })
    ] in
    by (port + 1 == first.low) refl

-- the same, whether the port passes or not
step_apart : (passes : Bool) (below : ℕ) (later : List PortRange) → suc below ≤ last_port
    → are_apart (suc below + 1) later ≡ true
    → are_apart (below + 1) (if passes then with_ports (suc below) (suc below) later else later) ≡ true
step_apart true below later small apart =
    let ranges = with_ports (suc below) (suc below) later in
    less_far (suc below) (below + 1) ranges (omega arith) (one_apart (suc below) later small apart)
step_apart false below later small apart = less_far (suc below + 1) (below + 1) later (omega arith) apart

down_apart : (test : ℕ → Bool) (n : ℕ) (later : List PortRange) → n ≤ last_port → are_apart (n + 1) later ≡ true
    → are_apart 1 (ranges_down test n later) ≡ true
unfolding ranges_down
down_apart test zero later small apart = apart
down_apart test (suc n) later small apart =
    down_apart test n (if test (suc n) then with_ports (suc n) (suc n) later else later) (omega arith)
    (step_apart (test (suc n)) n later small apart)

pub ranges_apart : RangesAreApart
ranges_apart test = down_apart test last_port [] (omega arith) refl

-- ranges of ports that pass are ranges, where there is one
pub are_ranges_of : (test : ℕ → Bool) (ranges : List PortRange) → ranges ≡ ranges_of test → 1 ≤ length ranges
    → are_ranges ranges ≡ true
are_ranges_of test ranges is some =
    and_from (nat_le 1 (length ranges)) (are_apart 1 ranges) (le-leb 1 (length ranges) some)
    (ap (are_apart 1) is ∙ ranges_apart test)

-- ---- they have the ports that pass

-- a port before ranges is in none of them
not_in : (next : ℕ) (ranges : List PortRange) (port : ℕ) → port < next → are_apart next ranges ≡ true
    → in_ranges ranges port ≡ false
not_in next [] port before apart = refl
not_in next (range ∷ rest) port before apart =
    let is = first_apart next range rest apart in
    let from = is.from in
    let up = is.up in
    let no : nat_le range.low port ≡ false = lt-leb range.low port (omega (arith, from, before)) in
    let later : in_ranges rest port ≡ false =
    not_in (range.high + 2) rest port (omega (arith, from, up, before)) is.later in
    rw (no, later) refl

-- a port behind a stretch of one port is in the same ranges as before
behind_one : (one : ℕ) (later : List PortRange) (port : ℕ) → one < port
    → in_ranges (with_ports one one later) port ≡ in_ranges later port
behind_one one [] port above =
    let no : nat_le port one ≡ false = lt-leb port one above in
    let yes' : nat_le one port ≡ true = le-leb one port (omega arith) in
    rw (yes', no) refl
behind_one one (first ∷ rest) port above =
    let no : nat_le port one ≡ false = lt-leb port one above in
    let yes' : nat_le one port ≡ true = le-leb one port (omega arith) in
    let by : (b : Bool) → (one + 1 == first.low) ≡ b
    → in_ranges (put one first rest b) port ≡ in_ranges (first ∷ rest) port =
    λ b. elim b as (λ b. (one + 1 == first.low) ≡ b
    → in_ranges (put one first rest b) port ≡ in_ranges (first ∷ rest) port) [
      | true ↦ λ next.
          let same = eqb-true (one + 1) first.low next in
          let its : nat_le first.low port ≡ true = le-leb first.low port (omega (arith, same, above)) in
          rw (yes', its) refl
      | false ↦ λ gap. rw (yes', no) refl
    ] in
    by (one + 1 == first.low) refl

-- a stretch of one port has it
has_one : (one : ℕ) (later : List PortRange) → are_apart (one + 1) later ≡ true
    → in_ranges (with_ports one one later) one ≡ true
has_one one [] apart = let itself : nat_le one one ≡ true = le-leb one one (omega arith) in rw itself refl
has_one one (first ∷ rest) apart =
    let is = first_apart (one + 1) first rest apart in
    let from = is.from in
    let up = is.up in
    let itself : nat_le one one ≡ true = le-leb one one (omega arith) in
    let in_first : nat_le one first.high ≡ true = le-leb one first.high (omega (arith, from, up)) in
    elim (one + 1 == first.low) as (λ b. in_ranges (put one first rest b) one ≡ true) [
      | true ↦ rw (itself, in_first) refl
      | false ↦ rw itself refl
    ]

-- the ports above are in the ranges that stood there
above : (test : ℕ → Bool) (n : ℕ) (later : List PortRange) (port : ℕ) → n < port
    → in_ranges (ranges_down test n later) port ≡ in_ranges later port
unfolding ranges_down
above test zero later port over = refl
above test (suc n) later port over =
    above test n (if test (suc n) then with_ports (suc n) (suc n) later else later) port (omega arith)
    ∙ elim (test (suc n))
    as (λ b. in_ranges (if b then with_ports (suc n) (suc n) later else later) port ≡ in_ranges later port) [
      | true ↦ behind_one (suc n) later port over
      | false ↦ refl
    ]

within : (test : ℕ → Bool) (n : ℕ) (later : List PortRange) (port : ℕ) → n ≤ last_port
    → are_apart (n + 1) later ≡ true → 1 ≤ port → port ≤ n → in_ranges (ranges_down test n later) port ≡ test port
unfolding ranges_down
within test zero later port small apart one most = absurd (omega arith)
within test (suc n) later port small apart one most =
    let next = if test (suc n) then with_ports (suc n) (suc n) later else later in
    let lower : port ≤ n → in_ranges (ranges_down test n next) port ≡ test port = λ le.
    within test n next port (omega arith) (step_apart (test (suc n)) n later small apart) one le in
    let last : n < port → in_ranges (ranges_down test n next) port ≡ test port = λ lt.
    let same : suc n ≡ port = omega (arith, lt, most) in
    let by : (b : Bool) → test (suc n) ≡ b
    → in_ranges (if b then with_ports (suc n) (suc n) later else later) (suc n) ≡ b =
    λ b. elim b as (λ b. test (suc n) ≡ b
    → in_ranges (if b then with_ports (suc n) (suc n) later else later) (suc n) ≡ b) [
      | true ↦ λ is. has_one (suc n) later apart
      | false ↦ λ is. not_in (suc n + 1) later (suc n) (omega arith) apart
    ] in
    above test n next port lt ∙ ap (in_ranges next) (sym same) ∙ by (test (suc n)) refl ∙ ap test same in
    ⊎_elim last lower (cases_lt n port)

pub ranges_ports : RangesHaveTheirPorts
ranges_ports test port one most = within test last_port [] port (omega arith) refl one most
