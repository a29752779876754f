-- The ruling for an identity is that of the first rule for it.
use Rattle.std.proofs.Common.{◌≡◌, Bool, true, false, List, [], ◌∷◌, Option, Some, None, find, refl, sym, ap, ◌∙◌}
use Rattle.std.specs.{Prelude.if◌then◌else◌, List.Sorted.IsStableBy}
use Rattle.dir_values.specs.declared.digest.Fingerprint.{Fingerprint}
use Rattle.flag_rules.specs.declared.{ruling.Ruling.{Ruling, TheVariants.Approve}, operator.OperatorRule.OperatorRule}
use Rattle.flag_rules.specs.{Rules.{RuleAlike, ruling_for}, Private.is_rule_before}
use Rattle.flag_rules.proofs.ByIdentity as by_identity

-- the identity that a rule is for
abbrev pub its : OperatorRule → Fingerprint
its rule = rule.identity

-- what a rule says, where there is one
abbrev pub ruling_in : Option OperatorRule → Ruling
ruling_in None = Approve
ruling_in (Some rule) = rule.ruling

pub ruling_is : (rules : List OperatorRule) (identity : Fingerprint)
    → ruling_for rules identity ≡ ruling_in (find (by_identity.is_of its identity) rules)
ruling_is [] identity = refl
ruling_is (rule ∷ rules) identity = by (by_identity.is_of its identity rule) (ruling_is rules identity)
  where
    by : (t : Bool) → ruling_for rules identity ≡ ruling_in (find (by_identity.is_of its identity) rules)
        → (if t then rule.ruling else ruling_for rules identity)
        ≡ ruling_in (if t then Some rule else find (by_identity.is_of its identity) rules)
    by true is = refl
    by false is = is

-- sorted rules rule as they did
pub alike : (rules sorted : List OperatorRule) → IsStableBy is_rule_before rules sorted → RuleAlike rules sorted
alike rules sorted stable identity =
    ruling_is sorted identity
    ∙ ap ruling_in (by_identity.alike its rules sorted stable (record { identity = identity; ruling = Approve }))
    ∙ sym (ruling_is rules identity)
