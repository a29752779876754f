use Rattle.std.proofs.Common.{sym, ap, ◌∙◌, ℕ}
use Rattle.list_values.{specs.Lending.value_there, proofs.NamePlaces.value_at_place}
use Rattle.list_values.proofs.named.value_for.Goals as goal

pub returns : goal.returns
returns g c =
    c.value_there.ensures
    ∙ ap (λ (k : ℕ). value_there c.args.items.now k c.args.name.now) c.place_of.ensures.count
    ∙ sym (value_at_place c.args.items.now c.args.name.now c.requires)
