use Rattle.std.proofs.Common.{◌∙◌}
use Rattle.bandwidth_file.proofs.Rows.{found_is}
use Rattle.bandwidth_file.proofs.relays.Relays.get.Goals as goal

pub returns : goal.returns
returns c = rw (← c.self.view_is) (c.copied.ensures ∙ c.get.ensures.value ∙ found_is c.self.inside.map.entries c.args.identity.now)
