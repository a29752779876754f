use Rattle.std.proofs.{Common.{◌≡◌, ℕ, ◌∙◌, sym, ap, List, length, take, drop, arith, ⊎_elim}, lemmas.Bool.cases_lt}
use Rattle.std.{proofs.lemmas.List.{take_all, drop_all}, specs.Prelude.min}
use Rattle.descriptor_frame.proofs.member.at_forty.Goals as goal

-- no more than all can be taken
front : (text : List ℕ) → take (min (length text) 40) text ≡ take 40 text
front text =
    ⊎_elim (λ short. take_all (min (length text) 40) text (omega arith) ∙ sym (take_all 40 text (omega arith)))
    (λ long. let e : min (length text) 40 ≡ 40 = omega arith in ap (λ (n : ℕ). take n text) e)
    (cases_lt (length text) 40)

back : (text : List ℕ) → drop (min (length text) 40) text ≡ drop 40 text
back text =
    ⊎_elim (λ short. drop_all (min (length text) 40) text (omega arith) ∙ sym (drop_all 40 text (omega arith)))
    (λ long. let e : min (length text) 40 ≡ 40 = omega arith in ap (λ (n : ℕ). drop n text) e)
    (cases_lt (length text) 40)

pub returns-clause-front : goal.returns-clause-front
returns-clause-front c =
    c.split_at.ensures.front ∙ ap (λ (n : ℕ). take n c.args.text.now) c.min.ensures ∙ front c.args.text.now

pub returns-clause-back : goal.returns-clause-back
returns-clause-back c =
    c.split_at.ensures.back ∙ ap (λ (n : ℕ). drop n c.args.text.now) c.min.ensures ∙ back c.args.text.now
