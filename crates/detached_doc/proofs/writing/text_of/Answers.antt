use Rattle.std.proofs.Common.{rules, ℕ, List, ◌++◌, ◌-◌, vec_len, vec_capacity, ap, ◌∙◌}
use Rattle.text_page.proofs.Pages.{text_whole}
use Rattle.detached_doc.specs.Private.{parts}
use Rattle.detached_doc.proofs.writing.text_of.Goals as goal

pub returns : goal.returns
returns c =
    let text = parts c.args.detached.now c.args.lines.now in
    text_whole c.put_detached.new.page c.try_reserve.new.self.items text c.in-Some-into_bytes.text.items
    (vec_capacity c.try_reserve.new.self - vec_len c.try_reserve.new.self) (search rules) (search rules)
    c.in-Some-into_bytes.ensures.text
    ∙ ap (λ (l : List ℕ). l ++ text) (c.in_ok-try_reserve.ensures.items ∙ c.new-room.ensures.items)
