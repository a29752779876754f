use Rattle.std.proofs.Common.{sym, ap, ◌∙◌, subst}
use Rattle.list_values.{specs.{Lending.entries_in, Maps.Ascend}, proofs.Maps.{entries_with, Ascend-with_value}}
use Rattle.list_values.proofs.name_map.NameMap.put.Goals as goal

pub returns : goal.returns
returns g c = rw (← c.self.view_is) (ap entries_in c.in_ok-insert.ensures.entries ∙ entries_with c.self.inside.map.entries c.args.name c.args.value)

pub invariant_of-self-2 : goal.invariant_of-self-2
invariant_of-self-2 g c =
    let entries = c.self.inside.map.entries in
    subst Ascend (sym (ap entries_in c.in_ok-insert.ensures.entries ∙ entries_with entries c.args.name c.args.value))
    (Ascend-with_value (entries_in entries) c.args.name.now c.args.value c.self.invariant)
