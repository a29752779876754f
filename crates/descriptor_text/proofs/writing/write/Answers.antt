use Rattle.std.proofs.Common.{◌≡◌, ◌∙◌, ◌++◌, [], List, ℕ, ap}
use Rattle.dirdoc_grammar.specs.Writing.{items_text}
use Rattle.descriptor_text.{specs.Texts.{back_items, front_items}, proofs.Appends.group_and}
use Rattle.descriptor_text.proofs.writing.write.Goals as goal

pub returns : goal.returns
returns c =
    let d = c.args.descriptor.now in
    let at1 = c.push_front.new.out.items in
    let at2 = c.push_back.new.out.items in
    let begins : at1 ≡ [] ++ items_text (front_items d) =
    c.in_ok-push_front.ensures.ok ∙ ap (λ (l : List ℕ). l ++ items_text (front_items d)) c.new-out.ensures.items in
    group_and [] at1 at2 (front_items d) (back_items d) begins c.in_ok-push_back.ensures.ok
