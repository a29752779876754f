use Rattle.std.proofs.{Common.{◌≡◌, ◌∙◌, ◌++◌, List, ℕ, ap, sym, append_assoc, arith}, lemmas.Grind.common_steps}
use Rattle.std.specs.Prelude.{decimal}
use Rattle.relay_entries.{specs.Texts.methods_text, proofs.Methods.{after_commas, methods_text-cons}}
use Rattle.relay_entries.proofs.texts.push_methods.Goals as goal

pub methods-init : goal.methods-init
methods-init c =
    let first = c.in-Some.first.now in
    let others = c.in-Some.others.now in
    let whole : methods_text c.args.methods.now ≡ decimal first ++ after_commas others =
    ap methods_text c.in-Some.ensures.cases.0 ∙ methods_text-cons first others in
    let written = c.in_ok-push_decimal.ensures.ok in
    record {
      text = ap (λ (l : List ℕ). l ++ after_commas others) written
          ∙ append_assoc c.args.rest.now.items (decimal first) (after_commas others)
          ∙ ap (λ (l : List ℕ). c.args.rest.now.items ++ l) (sym whole);
      front = grind (arith, common_steps, written);
    }
