-- Rules: what a hook that rules by them owes, and the rules of an operator.
use Rattle.std.specs.Prelude.{◌≡◌, Bool, false, IsTrue, List, [], ◌∷◌, length, All, AllPairs, if◌then◌else◌}
use Rattle.dir_values.specs.{Digests.{identity_below, same_identity}, declared.digest.Fingerprint.Fingerprint}
use Rattle.flag_rules.specs.declared.{relay.RelayFacts.RelayFacts, ruling.Ruling.{Ruling, TheVariants.Approve}}
use Rattle.flag_rules.specs.{declared.operator.OperatorRule.OperatorRule, Relays.ruled_relays, Rulings.same_ruling}

-- What a hook owes: it may be asked of every relay, and each of its rulings is one that the rules allow.
pub record KeepsTo {R F : Type 0} (allows : R → RelayFacts → Ruling → Bool)
    (pre : F → RelayFacts → Type 0) (post : F → RelayFacts → Ruling → Type 0) (rules : R) (ask : F) : Type 0 where
  pub callable : (facts : RelayFacts) → pre ask facts
  pub allowed : (facts : RelayFacts) (ruling : Ruling) → post ask facts ruling → IsTrue (allows rules facts ruling)

-- A ruling for each relay, and a fact that holds of each relay and its ruling.
pub record AreRulings (Holds : RelayFacts → Ruling → Type 0)
    (relays : List RelayFacts) (rulings : List Ruling) : Type 0 where
  pub one_each : length rulings ≡ length relays
  pub of_each : All (λ relay. Holds relay.facts relay.ruling) (ruled_relays relays rulings)

-- Rulings that the rules allow of each relay.
abbrev pub AreAllowed : (RelayFacts → Ruling → Bool) → List RelayFacts → List Ruling → Type 0
AreAllowed allows = AreRulings (λ facts ruling. IsTrue (allows facts ruling))

-- the ruling that an operator lists for an identity, or else `Approve`
abbrev pub ruling_for : List OperatorRule → Fingerprint → Ruling
ruling_for [] identity = Approve
ruling_for (rule ∷ rules) identity =
    if same_identity rule.identity identity then rule.ruling else ruling_for rules identity

-- Two lists of rules list the same ruling for each identity.
abbrev pub RuleAlike : List OperatorRule → List OperatorRule → Type 0
RuleAlike rules others = (identity : Fingerprint) → ruling_for others identity ≡ ruling_for rules identity

-- No rule stands behind one of a greater identity.
abbrev pub Ascend : List OperatorRule → Type 0
Ascend rules = AllPairs (λ earlier later. identity_below later.identity earlier.identity ≡ false) rules

-- the rules of an operator allow the one ruling that they list
abbrev pub list_allows : List OperatorRule → RelayFacts → Ruling → Bool
list_allows rules facts ruling = same_ruling ruling (ruling_for rules facts.identity)
