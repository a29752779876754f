use Rattle.std.proofs.Common.{rules, ◌≡◌, ◌++◌, ℕ, List, length, sym, ap, ◌∙◌, arith, append_assoc, length-append}
use Rattle.std.proofs.lemmas.Grind.{common_steps}
use Rattle.dir_values.{specs.{FlagSets.set_text, Lending.after_text}, proofs.SetTexts.set_text-cons}
use Rattle.dir_values.proofs.SetTexts.{length-after_text}
use Rattle.dir_values.proofs.flag_set.push_flags.Goals as goal

pub loop-flag-init : goal.loop-flag-init
loop-flag-init c =
    let first = c.in-Some.first.now in
    let rest = c.in-Some.rest.now in
    let whole : set_text c.args.flags.now ≡ first ++ after_text rest = ap set_text c.in-Some.ensures.cases.0 ∙ set_text-cons first rest in
    let written : c.extend_from_slice.new.self.items ≡ c.args.out.now.items ++ first = search rules in
    record {
      text = ap (λ (l : List ℕ). l ++ after_text rest) written ∙ append_assoc c.args.out.now.items first (after_text rest) ∙ ap (λ (l : List ℕ). c.args.out.now.items ++ l) (sym whole);
      left = omega (arith, ap (λ (l : List ℕ). length l) whole, length-append first (after_text rest), c.in_ok-extend_from_slice.ensures.len, ap (λ (l : List ℕ). length l) c.as_bytes.ensures);
      front = grind (arith, common_steps, written);
      capacity = search rules;
    }

pub returns-in_err-push-clause-room : goal.returns-in_err-push-clause-room
returns-in_err-push-clause-room c = λ room.
    absurd (omega (arith, length-after_text c.in-Some.rest.now c.loop-flag.flag-index c.flag-item.result c.loop-flag-test.true c.flag-item.is, c.in_err-push.ensures.full))

pub returns-in_err-extend_from_slice-2-clause-room : goal.returns-in_err-extend_from_slice-2-clause-room
returns-in_err-extend_from_slice-2-clause-room c = λ room.
    absurd (omega (arith, length-after_text c.in-Some.rest.now c.loop-flag.flag-index c.flag-item.result c.loop-flag-test.true c.flag-item.is, c.in_ok-push.ensures.len, c.in_ok-push.ensures.capacity, c.in_err-extend_from_slice-2.ensures.full, ap (λ (l : List ℕ). length l) c.as_bytes-in-loop-flag.ensures))
