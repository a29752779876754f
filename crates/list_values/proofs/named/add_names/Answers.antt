use Rattle.std.proofs.Common.{◌≡◌, ◌<◌, ◌+◌, ℕ, List, [], ◌∷◌, ◌++◌, length, get_or, take, map, ap, sym, ◌∙◌}
use Rattle.std.{proofs.lemmas.List.{map_more, take-map, Sums.fold-append}, specs.List.fold}
use Rattle.dir_values.specs.FlagSets.{with_flag}
use Rattle.list_values.specs.{declared.named.Named.Named, Maps.names_of}
use Rattle.list_values.proofs.named.add_names.Goals as goal

-- one more name is one more word
one_more : {V : Type 0} (words : List (List ℕ)) (items : List (Named V)) (i : ℕ) (item : Named V) → i < length items
    → item ≡ get_or items i item
    → with_flag (fold with_flag words (take i (names_of items))) item.name
    ≡ fold with_flag words (take (i + 1) (names_of items))
one_more {V} words items i item within is =
    let name = λ (entry : Named V). entry.name in
    let front = take i (names_of items) in
    ap (λ (entry : Named V). with_flag (fold with_flag words front) entry.name) is
    ∙ sym (fold-append with_flag words front ((get_or items i item).name ∷ []))
    ∙ ap (λ (named : List (List ℕ)). fold with_flag words (named ++ (get_or items i item).name ∷ [])) (take-map name i items)
    ∙ ap (λ (named : List (List ℕ)). fold with_flag words named) (sym (map_more name items i item within))
    ∙ ap (λ (named : List (List ℕ)). fold with_flag words named) (sym (take-map name (i + 1) items))

pub loop-item-preserved : goal.loop-item-preserved
loop-item-preserved g c =
    c.in_ok-insert.ensures.ok
    ∙ ap (λ (word : List ℕ). with_flag c.loop-item.names word) c.as_bytes.ensures
    ∙ ap (λ (words : List (List ℕ)). with_flag words c.item-item.result.name) c.loop-item.invariant
    ∙ one_more c.args.names.now c.args.items.now c.loop-item.item-index c.item-item.result c.loop-item-test.true
    c.item-item.is
