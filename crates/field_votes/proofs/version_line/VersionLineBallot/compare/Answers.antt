use Rattle.std.proofs.Common.{◌∙◌}
use Rattle.dir_values.specs.Versions.{named_order}
use Rattle.field_votes.proofs.version_line.VersionLineBallot.compare.Goals as goal

pub returns : goal.returns
returns c = c.compare_named.ensures ∙ (λ i. named_order (c.text.ensures i) (c.text-2.ensures i))
