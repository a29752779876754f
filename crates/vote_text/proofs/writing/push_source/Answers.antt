use Rattle.std.proofs.{Common.{◌∙◌, ◌++◌, ◌∷◌, [], ℕ, List, ap, append_assoc}, lemmas.Result.on_err_weaker}
use Rattle.dir_bytes.proofs.Appending.{front_stays}
use Rattle.item_terms.specs.Bytes.{space}
use Rattle.vote_text.specs.Texts.{names_text}
use Rattle.vote_text.proofs.writing.push_source.Goals as goal

pub returns-clause-err : goal.returns-clause-err
returns-clause-err c =
    let rest = c.args.rest.now in
    let text = names_text c.args.facts.now in
    on_err_weaker c.push_ports.result
    (front_stays rest.len c.push.new.self.len rest.items (text ++ space ∷ []) c.push.new.self.items c.push_ports.new.rest.items
    rest.ok.0 c.push.new.self.ok.0
    (c.in_ok-push.ensures.items ∙ ap (λ (l : List ℕ). l ++ space ∷ []) c.in_ok-push_names.ensures.ok ∙ append_assoc rest.items text (space ∷ [])))
    c.push_ports.ensures.err
