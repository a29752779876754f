use Rattle.std.proofs.Common.{ℕ, List, ◌∷◌, Option, map, sym, ap, ◌∙◌}
use Rattle.list_values.specs.{declared.number_range.NumberRange.NumberRange, Protocols.range_of}
use Rattle.list_values.proofs.ListedRanges.{numbers_after, after_more}
use Rattle.list_values.proofs.protocol_list.mask_in.Goals as goal

pub parts-preserved : goal.parts-preserved
parts-preserved c =
    let rest = map range_of c.next.new.self in
    let range = c.in_ok-range_of.field-0 in
    let mask = c.parts.mask in
    sym (after_more mask c.mask_of.result range rest c.mask_of.ensures)
    ∙ ap (λ (o : Option NumberRange). numbers_after mask (o ∷ rest)) c.in_ok-range_of.ensures.value
    ∙ sym (ap (λ (l : List (List ℕ)). numbers_after mask (map range_of l)) c.in-Some.ensures)
    ∙ c.parts.invariant
