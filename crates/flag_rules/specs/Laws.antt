-- What follows from the table of flags.
use Rattle.std.specs.Prelude.{◌≡◌, ◌==◌, ◌≤◌, ◌&&◌, ℕ, true, false, List, map, All, AllPairs, Some, slice_get, count_by}
use Rattle.std.specs.List.{zip}
use Rattle.dir_values.specs.Digests.{same_identity}
use Rattle.flag_rules.specs.declared.{relay.{RelayFacts.RelayFacts, RuledRelay.RuledRelay}, ruling.Ruling.Ruling}
use Rattle.flag_rules.specs.{declared.{operator.OperatorRule.OperatorRule, flags.Flags.Flags}, Limits.most_at_address}
use Rattle.flag_rules.specs.{Rulings.is_reject, Rules.{AreAllowed, ruling_for, list_allows}, Flags.sybil_alone}
use Rattle.flag_rules.specs.Flags.{flags_of}

-- The rules of an operator allow one list of rulings of given relays.
abbrev pub ListsRuleOneWay : Type 0
ListsRuleOneWay =
    (rules : List OperatorRule) (relays : List RelayFacts) (rulings : List Ruling)
    → AreAllowed (list_allows rules) relays rulings
    → rulings ≡ map (λ facts. ruling_for rules facts.identity) relays

-- A rejected relay has no flag.
abbrev pub RejectedRelaysHaveNoFlags : Type 0
RejectedRelaysHaveNoFlags =
    (now : ℕ) (relays : List RuledRelay) (place : ℕ) (relay : RuledRelay) → slice_get relays place ≡ Some relay
    → is_reject relay.ruling ≡ true → slice_get (flags_of now relays) place ≡ Some (sybil_alone false)

-- A Sybil has no other flag.
abbrev pub SybilsHaveNoOtherFlag : Type 0
SybilsHaveNoOtherFlag =
    (now : ℕ) (relays : List RuledRelay)
    → All (λ flags. flags.sybil ≡ true → flags ≡ sybil_alone true) (flags_of now relays)

-- At most two relays of an address are Running, where no two relays have one identity.
abbrev pub TwoRunAtAnAddress : Type 0
TwoRunAtAnAddress =
    (now ip : ℕ) (relays : List RuledRelay)
    → AllPairs (λ earlier later. same_identity earlier.facts.identity later.facts.identity ≡ false) relays
    → count_by (λ row. (row.0.facts.ip == ip) && row.1.running) (zip relays (flags_of now relays)) ≤ most_at_address

-- A relay is active: Running and Valid.
pub record IsActive (flags : Flags) : Type 0 where
  pub running : flags.running ≡ true
  pub valid : flags.valid ≡ true

-- A relay is what both Guard and HSDir ask.
pub record IsSound (flags : Flags) : Type 0 where
  pub fast : flags.fast ≡ true
  pub stable : flags.stable ≡ true
  pub v2_dir : flags.v2_dir ≡ true

-- A relay is for the middle of circuits: it is a bad exit, and has no flag that asks for another place.
pub record IsForTheMiddle (flags : Flags) : Type 0 where
  pub bad_exit : flags.bad_exit ≡ true
  pub exit : flags.exit ≡ false
  pub guard : flags.guard ≡ false
  pub hs_dir : flags.hs_dir ≡ false
  pub v2_dir : flags.v2_dir ≡ false

-- Which flags of a relay go with which.
pub record Agree (flags : Flags) : Type 0 where
  pub fast : flags.fast ≡ true → IsActive flags
  pub stable : flags.stable ≡ true → IsActive flags
  pub v2_dir : flags.v2_dir ≡ true → IsActive flags
  pub exit : flags.exit ≡ true → IsActive flags
  pub guard : flags.guard ≡ true → IsSound flags
  pub hs_dir : flags.hs_dir ≡ true → IsSound flags
  pub middle_only : flags.middle_only ≡ true → IsForTheMiddle flags

-- The flags of each relay agree.
abbrev pub FlagsAgree : Type 0
FlagsAgree = (now : ℕ) (relays : List RuledRelay) → All Agree (flags_of now relays)
