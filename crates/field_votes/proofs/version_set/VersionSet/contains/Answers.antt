use Rattle.std.proofs.Common.{◌∙◌}
use Rattle.field_votes.proofs.VersionSets.{texts_have}
use Rattle.field_votes.proofs.version_set.VersionSet.contains.Goals as goal

pub returns : goal.returns
returns c =
    rw (← c.self.view_is) (c.contains.ensures ∙ texts_have c.self.inside.texts.keys (record { text = c.args.text }))
