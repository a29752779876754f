use Rattle.std.proofs.Common.{rules, ℕ, List, ◌++◌, ◌-◌, vec_len, vec_capacity, ap, ◌∙◌}
use Rattle.text_page.proofs.Pages.{text_whole}
use Rattle.consensus_terms.specs.Texts as texts
use Rattle.consensus_text.proofs.facts.text_of.Goals as goal

pub returns : goal.returns
returns c =
    let text = texts.facts_text c.args.consensus.now in
    text_whole c.put_facts.new.page c.try_reserve.new.self.items text c.in-Some-into_bytes.text.items
    (vec_capacity c.try_reserve.new.self - vec_len c.try_reserve.new.self) (search rules) (search rules)
    c.in-Some-into_bytes.ensures.text
    ∙ ap (λ (l : List ℕ). l ++ text) (c.in_ok-try_reserve.ensures.items ∙ c.new-room.ensures.items)
