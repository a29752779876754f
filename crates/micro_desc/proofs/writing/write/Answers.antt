use Rattle.std.proofs.Common.{◌∙◌, ◌++◌, List, ℕ, ap, sym}
use Rattle.dirdoc_grammar.specs.Writing.{item_text, items_text}
use Rattle.frame_terms.specs.declared.keyword.Keyword.TheVariants as the
use Rattle.frame_values.{proofs.ItemsTexts.link, specs.Items.item_if}
use Rattle.micro_desc.{specs.Texts.{onion_key_item, ntor_key_items, family_items, id_items}, proofs.MicroTexts.parts}
use Rattle.micro_desc.proofs.writing.write.Goals as goal

pub returns : goal.returns
returns c =
    let micro = c.args.micro.now in
    let start = c.new-out.result.items in
    let text1 : List ℕ = item_text (onion_key_item micro.onion_key) in
    let text2 : List ℕ = items_text (ntor_key_items micro.ntor_onion_key) in
    let text3 : List ℕ = items_text (family_items micro.family) in
    let text4 : List ℕ = items_text (item_if the.FamilyIds micro.family_ids) in
    let text5 : List ℕ = items_text (item_if the.P micro.p) in
    let text6 : List ℕ = items_text (item_if the.P6 micro.p6) in
    let text7 : List ℕ = items_text (id_items micro.id) in
    let at1 = c.push_onion_key.new.out.items in
    let at2 = c.push_ntor_key.new.out.items in
    let at3 = c.push_family.new.out.items in
    let at4 = c.push_if.new.out.items in
    let at5 = c.push_if-2.new.out.items in
    let at6 = c.push_if-3.new.out.items in
    let at7 = c.push_id.new.out.items in
    let rest6 : List ℕ = text7 in
    let rest5 : List ℕ = text6 ++ rest6 in
    let rest4 : List ℕ = text5 ++ rest5 in
    let rest3 : List ℕ = text4 ++ rest4 in
    let rest2 : List ℕ = text3 ++ rest3 in
    let rest1 : List ℕ = text2 ++ rest2 in
    let whole : List ℕ = text1 ++ rest1 in
    link start text1 at1 at7 rest1 c.in_ok-push_onion_key.ensures.ok
    (link at1 text2 at2 at7 rest2 c.in_ok-push_ntor_key.ensures.ok
    (link at2 text3 at3 at7 rest3 c.in_ok-push_family.ensures.ok
    (link at3 text4 at4 at7 rest4 c.in_ok-push_if.ensures.ok
    (link at4 text5 at5 at7 rest5 c.in_ok-push_if-2.ensures.ok
    (link at5 text6 at6 at7 rest6 c.in_ok-push_if-3.ensures.ok c.in_ok-push_id.ensures.ok)))))
    ∙ ap (λ (l : List ℕ). l ++ whole) c.new-out.ensures.items
    ∙ sym (parts micro)
