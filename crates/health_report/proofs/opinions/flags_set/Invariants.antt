use Rattle.std.{proofs.Common.{◌≡◌, drop}, specs.List.{fold, flat_map}}
use Rattle.dir_values.specs.FlagSets.{with_flag, as_set}
use Rattle.health_report.specs.declared.opinion.Opinion.{Opinion}
use Rattle.health_report.proofs.opinions.flags_set.Given as goal

abbrev pub invariant-opinions : goal.invariant-opinions
invariant-opinions l =
    fold with_flag l.words (flat_map (λ (o : Opinion). o.flags) (drop l.opinion-index l.opinions))
    ≡ as_set (flat_map (λ (o : Opinion). o.flags) l.opinions)
