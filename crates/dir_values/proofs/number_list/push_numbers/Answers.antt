use Rattle.std.proofs.{Common.{◌≡◌, ◌∙◌, ◌++◌, List, ℕ, ap, sym, append_assoc, arith}, lemmas.Grind.common_steps}
use Rattle.std.specs.Prelude.{decimal}
use Rattle.dir_values.{specs.{Lending.after_numbers, Numbers.numbers_text}, proofs.NumberTexts.numbers_text-cons}
use Rattle.dir_values.proofs.number_list.push_numbers.Goals as goal

pub numbers-init : goal.numbers-init
numbers-init c =
    let first = c.in-Some.first.now in
    let rest = c.in-Some.others.now in
    let whole : numbers_text c.args.list.now ≡ decimal first ++ after_numbers rest = ap numbers_text c.in-Some.ensures.cases.0 ∙ numbers_text-cons first rest in
    let written = c.in_ok-push_decimal.ensures.ok in
    record {
      text = ap (λ (l : List ℕ). l ++ after_numbers rest) written ∙ append_assoc c.args.out.now.items (decimal first) (after_numbers rest)
          ∙ ap (λ (l : List ℕ). c.args.out.now.items ++ l) (sym whole);
      front = grind (arith, common_steps, written);
    }
