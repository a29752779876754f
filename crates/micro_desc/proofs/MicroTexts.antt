-- The text of a microdescriptor is that of its parts, one after the other.
use Rattle.std.proofs.Common.{◌≡◌, ◌∙◌, ℕ, List, ◌++◌, ap}
use Rattle.dirdoc_grammar.specs.Writing.{item_text, items_text}
use Rattle.frame_terms.specs.declared.keyword.Keyword.TheVariants as the
use Rattle.frame_values.{proofs.ItemsTexts.sections, specs.Items.item_if}
use Rattle.micro_desc.specs.{declared.micro.Micro.Micro, Texts.{onion_key_item, ntor_key_items, family_items, id_items}}
use Rattle.micro_desc.specs.Texts.{micro_text}

-- the parts behind the first
pub parts : (micro : Micro)
    → micro_text micro
    ≡ item_text (onion_key_item micro.onion_key)
    ++ (items_text (ntor_key_items micro.ntor_onion_key)
    ++ (items_text (family_items micro.family)
    ++ (items_text (item_if the.FamilyIds micro.family_ids)
    ++ (items_text (item_if the.P micro.p)
    ++ (items_text (item_if the.P6 micro.p6)
    ++ items_text (id_items micro.id))))))
parts micro =
    let key = ntor_key_items micro.ntor_onion_key in
    let family = family_items micro.family in
    let ids = item_if the.FamilyIds micro.family_ids in
    let p = item_if the.P micro.p in
    let p6 = item_if the.P6 micro.p6 in
    let id = id_items micro.id in
    ap (λ (l : List ℕ). item_text (onion_key_item micro.onion_key) ++ l)
    (sections key (family ++ (ids ++ (p ++ (p6 ++ id))))
    ∙ ap (λ (l : List ℕ). items_text key ++ l)
    (sections family (ids ++ (p ++ (p6 ++ id)))
    ∙ ap (λ (l : List ℕ). items_text family ++ l)
    (sections ids (p ++ (p6 ++ id))
    ∙ ap (λ (l : List ℕ). items_text ids ++ l)
    (sections p (p6 ++ id)
    ∙ ap (λ (l : List ℕ). items_text p ++ l) (sections p6 id)))))
