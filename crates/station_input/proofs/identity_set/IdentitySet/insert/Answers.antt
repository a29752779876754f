use Rattle.relay_entries.proofs.Keys.{with_key}
use Rattle.station_input.proofs.identity_set.IdentitySet.insert.Goals as goal

pub returns-clause-ok : goal.returns-clause-ok
returns-clause-ok c =
    rw (← c.self.view_is) (with_key c.self.inside.keys c.insert.new.self c.args.identity.now.0 c.in_ok-insert.ensures.updates)
