-- How many relays of an address come before one, in the order of the addresses.
use Rattle.std.proofs.Common.{◌≡◌, ℕ, suc, ◌-◌, ◌<◌, ◌≤◌, Bool, true, false, cond, List, length, get_or, refl, sym, ap}
use Rattle.std.proofs.{Common.{◌∙◌, arith, ⊎_elim}, lemmas.Cmp.{nat_cmp_total, nat_list_cmp_total, on_total}}
use Rattle.std.proofs.lemmas.{Cmp.{then_total, back_total}, Bool.{and_right, and_from, le-leb, lt-leb, lt-ltb}}
use Rattle.std.proofs.lemmas.Bool.{eqb-true, eqb-false, eq-eqb, ne_eqb, cases_lt, true_from_ne_false, true≢false}
use Rattle.std.{proofs.lemmas.{Bool.le-ltb, List.{get_or_default, Sorted.{ranks_by, sorted_far}}}, specs.Prelude.nat_le}
use Rattle.std.specs.{Prelude.{nat_lt, ◌==◌, ◌&&◌, ◌||◌}, Cmp.{IsTotalOrder, IsStrictWeakOrder}}
use Rattle.std.specs.{Cmp.Lexicographic.slice_cmp, declared.cmp.Ordering.{Ordering, TheVariants.{Less, Equal, Greater}}}
use Rattle.std.specs.{Ordering.{nat_cmp, ordering_then, is_lt}, List.{count_by, Sorted.IsPartitionedBy}}
use Rattle.std.specs.List.Sorted.{IsPartitionPoint}
use Rattle.dir_values.specs.Digests.{is_less}
use Rattle.flag_rules.specs.{declared.relay.RuledRelay.RuledRelay, Relays.bandwidth_of, Standings.is_ahead}
use Rattle.flag_rules.{specs.Private.{order_of, is_before, AreInOrder}, proofs.Counts.{count_both, count_one}}
use Rattle.count_terms.proofs.Passing.{count_low}

-- the order is one
pub order_total : IsTotalOrder order_of
order_total =
    then_total (on_total (λ (a : RuledRelay). a.facts.ip) nat_cmp_total)
    (then_total (back_total (on_total (λ (a : RuledRelay). bandwidth_of a.facts) nat_cmp_total))
    (on_total (λ (a : RuledRelay). a.facts.identity.0) nat_list_cmp_total))

pub weak_order : IsStrictWeakOrder is_before
weak_order = ranks_by order_total (λ (a : RuledRelay). a)

pub less_is_lt : (o : Ordering) → is_lt o ≡ is_less o
less_is_lt Less = refl
less_is_lt Equal = refl
less_is_lt Greater = refl

-- of two bandwidths the greater comes first, and then the order of the identities decides
within_address : (mine other : ℕ) (o : Ordering) → is_lt (ordering_then (nat_cmp other mine) o) ≡
    (nat_lt other mine || ((mine == other) && is_less o))
within_address mine other o =
    let by : (less same turned : Bool) → nat_lt other mine ≡ less → (other == mine) ≡ same → (mine == other) ≡ turned
    → is_lt (ordering_then (cond less Less (cond same Equal Greater)) o) ≡ (less || (turned && is_less o)) =
    λ less same turned. elim less as (λ less. nat_lt other mine ≡ less → (other == mine) ≡ same
    → (mine == other) ≡ turned
    → is_lt (ordering_then (cond less Less (cond same Equal Greater)) o) ≡ (less || (turned && is_less o))) [
      | true ↦ λ a b c. refl
      | false ↦ λ a. elim same as (λ same. (other == mine) ≡ same → (mine == other) ≡ turned
          → is_lt (ordering_then (cond same Equal Greater) o) ≡ (turned && is_less o)) [
            | true ↦ λ b c. let t : turned ≡ true = sym c ∙ eq-eqb mine other (sym (eqb-true other mine b)) in rw t
                (less_is_lt o)
            | false ↦ λ b c. let t : turned ≡ false = sym c ∙ ne_eqb mine other
                (λ e. eqb-false other mine b (sym e)) in rw t refl
          ]
    ] in
    by (nat_lt other mine) (other == mine) (mine == other) refl refl refl

-- a relay is ahead of another where it has the same address and comes before it
pub ahead_is : (a b : RuledRelay) → is_ahead a.facts b.facts ≡ ((a.facts.ip == b.facts.ip) && is_before a b)
ahead_is a b =
    let rest : Ordering = slice_cmp nat_cmp a.facts.identity.0 b.facts.identity.0 in
    let ahead = nat_lt (bandwidth_of b.facts) (bandwidth_of a.facts)
    || ((bandwidth_of a.facts == bandwidth_of b.facts) && is_less rest) in
    let by : (same : Bool) → (a.facts.ip == b.facts.ip) ≡ same → (same && ahead) ≡ (same && is_before a b) =
    λ same. elim same as (λ same. (a.facts.ip == b.facts.ip) ≡ same → (same && ahead) ≡ (same && is_before a b)) [
      | true ↦ λ is.
          let e = eqb-true a.facts.ip b.facts.ip is in
          let not_less : nat_lt a.facts.ip b.facts.ip ≡ false = le-ltb a.facts.ip b.facts.ip (omega (arith, e)) in
          let tied : nat_cmp a.facts.ip b.facts.ip ≡ Equal = rw (not_less, is) refl in
          let after : is_before a b ≡ is_lt (ordering_then (nat_cmp (bandwidth_of b.facts) (bandwidth_of a.facts))
          rest) =
          ap (λ (o : Ordering). is_lt (ordering_then o (ordering_then
          (nat_cmp (bandwidth_of b.facts) (bandwidth_of a.facts)) rest))) tied in
          sym (after ∙ within_address (bandwidth_of a.facts) (bandwidth_of b.facts) rest)
      | false ↦ λ is. refl
    ] in
    by (a.facts.ip == b.facts.ip) refl

-- what does not come before a relay has no smaller address
no_smaller : (a b : RuledRelay) → is_before a b ≡ false → b.facts.ip ≤ a.facts.ip
no_smaller a b not_before =
    ⊎_elim (λ less.
    let is : nat_cmp a.facts.ip b.facts.ip ≡ Less = let t = lt-ltb a.facts.ip b.facts.ip less in rw t refl in
    let before : is_before a b ≡ true = ap (λ (o : Ordering).
    is_lt (ordering_then o (ordering_then (nat_cmp (bandwidth_of b.facts) (bandwidth_of a.facts))
    (slice_cmp nat_cmp a.facts.identity.0 b.facts.identity.0)))) is in
    absurd (true≢false (sym before ∙ not_before))) (λ more. more) (cases_lt a.facts.ip b.facts.ip)

-- what comes before a relay has no greater address
no_greater : (a b : RuledRelay) → is_before a b ≡ true → a.facts.ip ≤ b.facts.ip
no_greater a b before = no_smaller b a (weak_order.one_way a b before)

-- in a sorted list, what comes before a relay stands in front of what does not
pub parted : (in_order : List RuledRelay) (relay : RuledRelay) → AreInOrder in_order
    → IsPartitionedBy (λ other. is_before other relay) in_order
parted in_order relay sorted i j d le lt later =
    let far : is_before (get_or in_order j d) (get_or in_order i d) ≡ false =
    sorted_far is_before weak_order in_order sorted i j d le lt in
    true_from_ne_false (is_before (get_or in_order i d) relay) (λ no.
    true≢false (sym later ∙ weak_order.chain (get_or in_order j d) (get_or in_order i d) relay far no))

-- at least two stand ahead of a relay exactly where the last but one before it has its address
pub two_ahead : (in_order : List RuledRelay) (relay d : RuledRelay) (k : ℕ) → AreInOrder in_order
    → k ≤ length in_order → 2 ≤ k
    → IsPartitionPoint (λ other. is_before other relay ≡ true) (λ other. is_before other relay ≡ false) in_order k
    → ((get_or in_order (k - 2) d).facts.ip == relay.facts.ip) ≡ nat_le 2
    (count_by (λ other. is_ahead other.facts relay.facts) in_order)
two_ahead in_order relay d k sorted within two parts =
    let p : RuledRelay → Bool = λ other. is_ahead other.facts relay.facts in
    let low : (i j : ℕ) (e : RuledRelay) → i ≤ j → j < length in_order
    → (get_or in_order i e).facts.ip ≤ (get_or in_order j e).facts.ip = λ i j e le lt.
    no_smaller (get_or in_order j e) (get_or in_order i e) (sorted_far is_before weak_order in_order sorted i j e le
    lt) in
    let behind : (j : ℕ) (e : RuledRelay) → k ≤ j → j < length in_order
    → p (get_or in_order j e) ≡ false = λ j e from lt.
    ahead_is (get_or in_order j e) relay ∙ and_right ((get_or in_order j e).facts.ip == relay.facts.ip)
    (is_before (get_or in_order j e) relay) (parts.1 j e from lt) in
    let front : (j : ℕ) (e : RuledRelay) → j < k → (get_or in_order j e).facts.ip ≡ relay.facts.ip
    → p (get_or in_order j e) ≡ true = λ j e lt same.
    ahead_is (get_or in_order j e) relay ∙ and_from _ _ (eq-eqb (get_or in_order j e).facts.ip relay.facts.ip same)
    (parts.0 j e (omega arith) lt) in
    let other_one : (j : ℕ) (e : RuledRelay) → (get_or in_order j e).facts.ip < relay.facts.ip
    → p (get_or in_order j e) ≡ false = λ j e less.
    let ne : ((get_or in_order j e).facts.ip == relay.facts.ip) ≡ false =
    ne_eqb (get_or in_order j e).facts.ip relay.facts.ip (λ q. omega (arith, less, q)) in
    ahead_is (get_or in_order j e) relay ∙ ap (λ (b : Bool). b && is_before (get_or in_order j e) relay) ne in
    let last : (j : ℕ) (e : RuledRelay) → j < k → (get_or in_order j e).facts.ip ≤ relay.facts.ip = λ j e lt.
    no_greater (get_or in_order j e) relay (parts.0 j e (omega arith) lt) in
    let by : (b : Bool) → ((get_or in_order (k - 2) d).facts.ip == relay.facts.ip) ≡ b
    → b ≡ nat_le 2 (count_by p in_order) =
    λ b. elim b as (λ b. ((get_or in_order (k - 2) d).facts.ip == relay.facts.ip) ≡ b
    → b ≡ nat_le 2 (count_by p in_order)) [
      | true ↦ λ is.
          let same = eqb-true (get_or in_order (k - 2) d).facts.ip relay.facts.ip is in
          let one : (e : RuledRelay) → (get_or in_order (k - 2) e).facts.ip ≡ relay.facts.ip = λ e.
          ap (λ (r : RuledRelay). r.facts.ip) (get_or_default in_order (k - 2) e d (omega arith)) ∙ same in
          let next : (e : RuledRelay) → (get_or in_order (suc (k - 2)) e).facts.ip ≡ relay.facts.ip = λ e.
          let up = low (k - 2) (suc (k - 2)) e (omega arith) (omega arith) in
          let most = last (suc (k - 2)) e (omega arith) in
          let first = one e in
          omega (arith, up, most, first) in
          let many = count_both p in_order (k - 2) (suc (k - 2)) d (omega arith) (omega arith)
          (front (k - 2) d (omega arith) (one d)) (front (suc (k - 2)) d (omega arith) (next d)) in
          sym (le-leb 2 (count_by p in_order) many)
      | false ↦ λ is.
          let ne = eqb-false (get_or in_order (k - 2) d).facts.ip relay.facts.ip is in
          let most = last (k - 2) d (omega arith) in
          let few = count_one p in_order (k - 1) (λ j e other lt.
          ⊎_elim (λ before.
          let up = low j (k - 2) e (omega arith) (omega arith) in
          let same : (get_or in_order (k - 2) e).facts.ip ≡ (get_or in_order (k - 2) d).facts.ip =
          ap (λ (r : RuledRelay). r.facts.ip) (get_or_default in_order (k - 2) e d (omega arith)) in
          other_one j e (omega (arith, up, same, most, ne)))
          (λ from. behind j e (omega arith) lt) (cases_lt j (k - 1))) in
          sym (lt-leb 2 (count_by p in_order) (omega (arith, few)))
    ] in
    by ((get_or in_order (k - 2) d).facts.ip == relay.facts.ip) refl

-- where fewer than two come before a relay, fewer than two are ahead of it
pub few_ahead : (in_order : List RuledRelay) (relay : RuledRelay) (k : ℕ) → k < 2
    → IsPartitionPoint (λ other. is_before other relay ≡ true) (λ other. is_before other relay ≡ false) in_order k
    → nat_le 2 k ≡ nat_le 2 (count_by (λ other. is_ahead other.facts relay.facts) in_order)
few_ahead in_order relay k few parts =
    let p : RuledRelay → Bool = λ other. is_ahead other.facts relay.facts in
    let most = count_low p in_order k (λ j e from lt.
    ahead_is (get_or in_order j e) relay ∙ and_right ((get_or in_order j e).facts.ip == relay.facts.ip)
    (is_before (get_or in_order j e) relay) (parts.1 j e from lt)) in
    lt-leb 2 k few ∙ sym (lt-leb 2 (count_by p in_order) (omega (arith, most, few)))
