-- At most two relays of an address run.
use Rattle.std.proofs.Common.{◌≡◌, ◌⊎◌, ℕ, ◌<◌, ◌≤◌, Bool, true, false, List, length, get_or, refl, sym, ap, ◌∙◌, arith}
use Rattle.std.proofs.{Common.{⊎_elim, inl, inr}, lemmas.Bool.{and_parts, and_from, or_left, or_right, le-leb, lt-ltb}}
use Rattle.std.proofs.lemmas.Bool.{eqb-true, eq-eqb, cases_order, cases_Bool, true≢false, false_from_ne_true}
use Rattle.std.specs.Prelude.{◌==◌, nat_le, AllPairs, not, ◌&&◌, ◌||◌, filter, if◌then◌else◌}
use Rattle.std.specs.{declared.cmp.Ordering.{Ordering, TheVariants.{Less, Equal, Greater}}, Ordering.is_lt}
use Rattle.dir_values.{proofs.Orders.below_or_same, specs.Digests.{identity_below, same_identity}}
use Rattle.flag_rules.specs.declared.{relay.{RelayFacts.RelayFacts, RuledRelay.RuledRelay}, standing.Standing.Standing}
use Rattle.flag_rules.specs.{declared.{thresholds.Thresholds.Thresholds, flags.Flags.Flags}, Limits.most_at_address}
use Rattle.flag_rules.specs.{Relays.bandwidth_of, Rulings.is_reject, Standings.{is_reached, reached_relays, is_ahead}}
use Rattle.flag_rules.specs.Standings.{count_ahead, is_sybil, standing_of, standings_of, is_running, is_active}
use Rattle.flag_rules.specs.Flags.{thresholds_of, sybil_alone, own_flags, flags_with, flags_of}
use Rattle.flag_rules.{specs.{Laws.TwoRunAtAnAddress, Private.{order_of, is_before}}, proofs.Ahead.order_total}
use Rattle.flag_rules.proofs.{Ahead.ahead_is, Counts.{count_both, count_few, count-filter, count-zip}}

less : (o : Ordering) → is_lt o ≡ true → o ≡ Less
less Less is = refl
less Equal is = absurd cc
less Greater is = absurd cc

-- what is ahead of a relay that is ahead of another is ahead of that one too
ahead-trans : (a b c : RuledRelay) → is_ahead a.facts b.facts ≡ true → is_ahead b.facts c.facts ≡ true
    → is_ahead a.facts c.facts ≡ true
ahead-trans a b c ab bc =
    let one = and_parts (a.facts.ip == b.facts.ip) (is_before a b) (sym (ahead_is a b) ∙ ab) in
    let two = and_parts (b.facts.ip == c.facts.ip) (is_before b c) (sym (ahead_is b c) ∙ bc) in
    let same = eqb-true a.facts.ip b.facts.ip one.0 ∙ eqb-true b.facts.ip c.facts.ip two.0 in
    let before : is_before a c ≡ true =
    ap is_lt (order_total.trans a b c (less (order_of a b) one.1) (less (order_of b c) two.1)) in
    ahead_is a c ∙ and_from (a.facts.ip == c.facts.ip) (is_before a c) (eq-eqb a.facts.ip c.facts.ip same) before

-- of two relays of an address one is ahead of the other
ahead_one : (a b : RelayFacts) → a.ip ≡ b.ip → same_identity a.identity b.identity ≡ false
    → (is_ahead a b ≡ true) ⊎ (is_ahead b a ≡ true)
ahead_one a b address differ =
    let here = eq-eqb a.ip b.ip address in
    let there = eq-eqb b.ip a.ip (sym address) in
    let tie : bandwidth_of a ≡ bandwidth_of b → (is_ahead a b ≡ true) ⊎ (is_ahead b a ≡ true) = λ e.
    ⊎_elim (λ below.
    inl (and_from _ _ here (or_right _ _ (and_from _ _ (eq-eqb (bandwidth_of a) (bandwidth_of b) e) below))))
    (λ no.
    let below = below_or_same a.identity.0 b.identity.0 no differ in
    inr (and_from _ _ there (or_right _ _ (and_from _ _ (eq-eqb (bandwidth_of b) (bandwidth_of a) (sym e)) below))))
    (cases_Bool (identity_below a.identity b.identity)) in
    ⊎_elim tie (⊎_elim
    (λ less. inr (and_from _ _ there (or_left _ _ (lt-ltb (bandwidth_of a) (bandwidth_of b) less))))
    (λ more. inl (and_from _ _ here (or_left _ _ (lt-ltb (bandwidth_of b) (bandwidth_of a) more)))))
    (cases_order (bandwidth_of a) (bandwidth_of b))

-- a reached relay that two reached ones are ahead of is a Sybil
crowded : (now : ℕ) (relays : List RuledRelay) (relay : RuledRelay) (i j : ℕ) (d : RuledRelay) → i < j
    → j < length relays
    → is_reached now relay.facts relay.ruling ≡ true
    → is_reached now (get_or relays i d).facts (get_or relays i d).ruling ≡ true
    → is_ahead (get_or relays i d).facts relay.facts ≡ true
    → is_reached now (get_or relays j d).facts (get_or relays j d).ruling ≡ true
    → is_ahead (get_or relays j d).facts relay.facts ≡ true
    → is_sybil now relays relay ≡ true
crowded now relays relay i j d lt within mine one ahead other before =
    let reached : RuledRelay → Bool = λ r. is_reached now r.facts r.ruling in
    let p : RuledRelay → Bool = λ r. is_ahead r.facts relay.facts in
    let two = count_both (λ r. reached r && p r) relays i j d lt within
    (and_from (reached (get_or relays i d)) (p (get_or relays i d)) one ahead)
    (and_from (reached (get_or relays j d)) (p (get_or relays j d)) other before) in
    let same = count-filter p reached relays in
    let many : 2 ≤ count_ahead (reached_relays now relays) relay.facts = omega (arith, two, same) in
    and_from (reached relay) (nat_le most_at_address (count_ahead (reached_relays now relays) relay.facts)) mine
    (le-leb 2 (count_ahead (reached_relays now relays) relay.facts) many)

from_not : (b : Bool) → not b ≡ true → b ≡ false
from_not true is = absurd cc
from_not false is = refl

running_with : (now : ℕ) (least : Thresholds) (relay : Standing) → (flags_with now least relay).running ≡ true
    → is_running now relay ≡ true
running_with now least relay =
    let chosen : Bool → Flags = λ b. if b then sybil_alone relay.sybil else own_flags now least relay in
    let by : (b : Bool) → (chosen b).running ≡ true → is_running now relay ≡ true =
    λ b. elim b as (λ b. (chosen b).running ≡ true → is_running now relay ≡ true) [
      | true ↦ λ is. absurd cc
      | false ↦ λ is. is
    ] in
    by (is_reject relay.ruling || relay.sybil)

-- what is known of a relay of an address that runs
record Runs (now ip : ℕ) (relays : List RuledRelay) (relay : RuledRelay) : Type 0 where
  pub address : relay.facts.ip ≡ ip
  pub reached : is_reached now relay.facts relay.ruling ≡ true
  pub no_sybil : is_sybil now relays relay ≡ false

runs_at : (now ip : ℕ) (relays : List RuledRelay) (least : Thresholds) (relay : RuledRelay)
    → ((relay.facts.ip == ip) && (flags_with now least (standing_of now relays relay)).running) ≡ true
    → Runs now ip relays relay
runs_at now ip relays least relay is =
    let standing = standing_of now relays relay in
    let parts = and_parts (relay.facts.ip == ip) (flags_with now least standing).running is in
    let running = and_parts (is_reached now relay.facts relay.ruling) (not (is_sybil now relays relay))
    (running_with now least standing parts.1) in
    record {
      address = eqb-true relay.facts.ip ip parts.0;
      reached = running.0;
      no_sybil = from_not (is_sybil now relays relay) running.1;
    }

-- no three relays of an address run
no_three : (now ip : ℕ) (relays : List RuledRelay)
    → AllPairs (λ earlier later. same_identity earlier.facts.identity later.facts.identity ≡ false) relays
    → (i j k : ℕ) (d : RuledRelay) → i < j → j < k → k < length relays
    → Runs now ip relays (get_or relays i d) → Runs now ip relays (get_or relays j d)
    → Runs now ip relays (get_or relays k d) → ⊥
no_three now ip relays apart i j k d lt after within one two three =
    let a = get_or relays i d in
    let b = get_or relays j d in
    let c = get_or relays k d in
    let ab = ahead_one a.facts b.facts (one.address ∙ sym two.address)
    (apart i j d lt (omega (arith, after, within))) in
    let bc = ahead_one b.facts c.facts (two.address ∙ sym three.address) (apart j k d after within) in
    let ac = ahead_one a.facts c.facts (one.address ∙ sym three.address)
    (apart i k d (omega (arith, lt, after)) within) in
    let behind_c : is_ahead a.facts c.facts ≡ true → is_ahead b.facts c.facts ≡ true → ⊥ = λ x y.
    true≢false (sym (crowded now relays c i j d lt (omega (arith, after, within)) three.reached one.reached x
    two.reached y) ∙ three.no_sybil) in
    let behind_b : is_ahead a.facts b.facts ≡ true → is_ahead c.facts b.facts ≡ true → ⊥ = λ x y.
    true≢false (sym (crowded now relays b i k d (omega (arith, lt, after)) within two.reached one.reached x
    three.reached y) ∙ two.no_sybil) in
    let behind_a : is_ahead b.facts a.facts ≡ true → is_ahead c.facts a.facts ≡ true → ⊥ = λ x y.
    true≢false (sym (crowded now relays a j k d after within one.reached two.reached x three.reached y)
    ∙ one.no_sybil) in
    ⊎_elim (λ x. ⊎_elim (λ y. behind_c (ahead-trans a b c x y) y) (behind_b x) bc)
    (λ x. ⊎_elim (λ y. behind_c y (ahead-trans b a c x y)) (behind_a x) ac) ab

pub two_run : TwoRunAtAnAddress
unfolding flags_of
two_run now ip relays apart =
    let standings = standings_of now relays in
    let least = thresholds_of (filter (is_active now) standings) in
    let runs : RuledRelay → Bool = λ relay. (relay.facts.ip == ip)
    && (flags_with now least (standing_of now relays relay)).running in
    let few = count_few runs relays (λ i j k d lt after within one two.
    false_from_ne_true (runs (get_or relays k d)) (λ three.
    no_three now ip relays apart i j k d lt after within (runs_at now ip relays least (get_or relays i d) one)
    (runs_at now ip relays least (get_or relays j d) two)
    (runs_at now ip relays least (get_or relays k d) three))) in
    let same = count-zip (λ (row : RuledRelay × Flags). (row.0.facts.ip == ip) && row.1.running)
    (standing_of now relays) (flags_with now least) relays in
    omega (arith, few, same)
