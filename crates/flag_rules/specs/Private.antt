-- What the private functions of this crate say.
use Rattle.std.specs.{Prelude.{◌≡◌, ℕ, Bool, List, if◌then◌else◌}, declared.cmp.Ordering.Ordering, Ordering.nat_cmp}
use Rattle.std.specs.{Ordering.{ordering_then, is_lt}, Cmp.Lexicographic.slice_cmp, List.Sorted.IsPermutation}
use Rattle.std.specs.List.Sorted.{IsSortedBy}
use Rattle.dir_values.specs.FlagSets.{with_flag}
use Rattle.flag_rules.specs.declared.{relay.RuledRelay.RuledRelay, standing.Standing.Standing}
use Rattle.flag_rules.specs.{declared.operator.OperatorRule.OperatorRule, Relays.bandwidth_of, Standings.reached_relays}
use Rattle.flag_rules.specs.Standings.{standing_of}

-- by address, then by the greater bandwidth, then by the smaller identity
abbrev pub order_of : RuledRelay → RuledRelay → Ordering
order_of a b =
    ordering_then (nat_cmp a.facts.ip b.facts.ip)
    (ordering_then (nat_cmp (bandwidth_of b.facts) (bandwidth_of a.facts))
    (slice_cmp nat_cmp a.facts.identity.0 b.facts.identity.0))

-- whether a relay comes before another in this order
abbrev pub is_before : RuledRelay → RuledRelay → Bool
is_before a b = is_lt (order_of a b)

-- relays in this order
abbrev pub AreInOrder : List RuledRelay → Type 0
AreInOrder relays = IsSortedBy is_before relays

-- a list has the reached relays of another, in this order
pub record AreReachedInOrder (now : ℕ) (relays in_order : List RuledRelay) : Type 0 where
  pub same : IsPermutation (reached_relays now relays) in_order
  pub sorted : AreInOrder in_order

-- a relay stands so among all relays of which these are the reached ones in order
abbrev pub StandsAmong : ℕ → List RuledRelay → RuledRelay → Standing → Type 0
StandsAmong now in_order relay standing =
    (relays : List RuledRelay) → AreReachedInOrder now relays in_order → standing ≡ standing_of now relays relay

-- rules by identity
abbrev pub rule_order : OperatorRule → OperatorRule → Ordering
rule_order a b = slice_cmp nat_cmp a.identity.0 b.identity.0

-- whether the identity of a rule comes before another's
abbrev pub is_rule_before : OperatorRule → OperatorRule → Bool
is_rule_before a b = is_lt (rule_order a b)

-- a set of names with one more, where it is to stand
abbrev pub with_name : Bool → List ℕ → List (List ℕ) → List (List ℕ)
with_name flag name set = if flag then with_flag set name else set
