use Rattle.std.proofs.Common.{ap, ◌∙◌}
use Rattle.field_votes.{specs.VersionSets.texts_in, proofs.VersionSets.texts_with}
use Rattle.field_votes.proofs.version_set.VersionSet.insert.Goals as goal

pub returns : goal.returns
returns c =
    rw (← c.self.view_is) (ap texts_in c.in_ok-insert.ensures.keys
    ∙ texts_with c.self.inside.texts.keys (record { text = c.args.text }))
