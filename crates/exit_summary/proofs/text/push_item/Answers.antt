use Rattle.std.proofs.{Common.{◌∙◌, ◌++◌, ◌∷◌, [], ℕ, List, ap, append_assoc}, lemmas.Result.on_err_weaker}
use Rattle.dir_bytes.proofs.Appending.{front_stays}
use Rattle.exit_summary.specs.Texts.{net_text}
use Rattle.exit_summary.proofs.text.push_item.Goals as goal

pub returns-clause-err : goal.returns-clause-err
returns-clause-err c =
    let out = c.args.out.now in
    let text = net_text c.args.item.net in
    on_err_weaker c.push_ports.result
    (front_stays out.len c.push.new.self.len out.items (text ++ 58 ∷ []) c.push.new.self.items c.push_ports.new.out.items
    out.ok.0 c.push.new.self.ok.0
    (c.in_ok-push.ensures.items ∙ ap (λ (l : List ℕ). l ++ 58 ∷ []) c.in_ok-push_net.ensures.ok ∙ append_assoc out.items text (58 ∷ [])))
    c.push_ports.ensures.err
