use Rattle.std.proofs.Common.{ℕ, List, sym, ap, ◌∙◌}
use Rattle.dir_values.{specs.{FlagSets.has_flag, Lending.{is_at, place_of}}, proofs.FlagPlaces.has_at_place}
use Rattle.dir_values.proofs.flag_set.FlagSet.contains.Goals as goal

pub returns : goal.returns
returns c =
    let flags = c.self.inside.flags.items in
    let flag = c.args.flag.now in
    c.is_at.ensures ∙ ap (λ (l : List (List ℕ)). is_at l c.place_of.result flag) c.deref.ensures.value
    ∙ ap (λ (n : ℕ). is_at flags n flag) (c.place_of.ensures.count ∙ ap (λ (l : List (List ℕ)). place_of l flag) c.deref-2.ensures.value)
    ∙ sym (has_at_place flags flag c.self.invariant)
    ∙ ap (λ (l : List (List ℕ)). has_flag l flag) c.self.view_is
