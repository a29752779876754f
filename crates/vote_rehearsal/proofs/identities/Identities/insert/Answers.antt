use Rattle.std.proofs.Common.{not, ap, ◌∙◌}
use Rattle.relay_entries.proofs.Keys.{has_key, with_key}
use Rattle.vote_rehearsal.proofs.identities.Identities.insert.Goals as goal

pub returns-clause-added : goal.returns-clause-added
returns-clause-added c =
    rw (← c.self.view_is) (c.in_ok-insert.ensures.added ∙ ap not (has_key c.self.inside.keys c.args.identity.now.0))

pub returns-clause-ok : goal.returns-clause-ok
returns-clause-ok c =
    rw (← c.self.view_is)
    (with_key c.self.inside.keys c.insert.new.self c.args.identity.now.0 c.in_ok-insert.ensures.updates)
