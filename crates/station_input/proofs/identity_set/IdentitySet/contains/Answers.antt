use Rattle.std.proofs.Common.{◌∙◌}
use Rattle.relay_entries.proofs.Keys.{has_key}
use Rattle.station_input.proofs.identity_set.IdentitySet.contains.Goals as goal

pub returns : goal.returns
returns c = rw (← c.self.view_is) (c.contains.ensures ∙ has_key c.self.inside.keys c.args.identity.now.0)
