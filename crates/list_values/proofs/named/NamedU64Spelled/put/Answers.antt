use Rattle.std.proofs.{Common.{[], ◌∷◌, ◌++◌, map, ap, ◌∙◌, append_assoc}, lemmas.List.take_rest}
use Rattle.std.specs.List.{join_with_byte}
use Rattle.item_terms.specs.Bytes.{comma}
use Rattle.text_page.proofs.Pages.{also, same_text}
use Rattle.list_values.specs.{Equations.equals, NumberSets.range_text}
use Rattle.list_values.proofs.named.NamedU64Spelled.put.Goals as goal

pub returns : goal.returns
returns c =
    let name = same_text _ _ _ _ c.as_bytes.ensures c.put.ensures in
    same_text _ _ _ _
    (append_assoc c.args.self.now.name (equals ∷ []) _
    ∙ ap (λ ranges. c.args.self.now.name ++ equals ∷ join_with_byte comma (map range_text ranges))
    (take_rest c.runs_of-runs.result.ranges c.runs_of-runs.result.start ∙ c.runs_of-runs.ensures.value))
    (also _ _ _ _ _ (also _ _ _ _ _ name c.put-2.ensures) c.put_joined.ensures)
