use Rattle.std.proofs.Common.{◌∙◌}
use Rattle.list_values.proofs.Maps.{entry_found}
use Rattle.list_values.proofs.name_map.NameMap.get.Goals as goal

pub returns : goal.returns
returns g c = rw (← c.self.view_is) (c.copied.ensures ∙ c.get.ensures.value ∙ entry_found c.self.inside.map.entries c.args.name.now)
