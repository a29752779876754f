-- How many lines of signatures there are: those that were accepted, those that are skipped and those that were refused.
use Rattle.std.proofs.Common.{◌≡◌, ℕ, ◌+◌, true, false, not, List, [], ◌∷◌, length, Option, Some, None, refl, ap, cond}
use Rattle.std.{proofs.{Common.arith, lemmas.List.length-map}, specs.{Prelude.{filter, is_none}, List.filter_map}}
use Rattle.std.specs.List.{cons_option}
use Rattle.key_port.specs.Answers.{Rules, Steps}
use Rattle.detached_doc.specs.declared.detached.{Detached.Detached, DetachedLine.DetachedLine}
use Rattle.period_terms.specs.declared.{signature.OfferedSignature.OfferedSignature, view.PeriodView.PeriodView}
use Rattle.checked_sigs.specs.{Asking.offered_by, Checks.{Judgement, Tally, TellsLines}}

module _ {A B : Type 0} where
  one_more_is_found_or_left : (o : Option B) (x : A) (found : List B) (rest : List A) (n : ℕ) → length found + length rest ≡ n
      → length (cons_option o found) + length (cond (is_none o) (x ∷ rest) rest) ≡ n + 1
  one_more_is_found_or_left None x found rest n is = omega arith
  one_more_is_found_or_left (Some y) x found rest n is = omega arith

  -- each is found something of, or is not
  parted : (f : A → Option B) (xs : List A)
      → length (filter_map f xs) + length (filter (λ (x : A). is_none (f x)) xs) ≡ length xs
  parted f [] = refl
  parted f (x ∷ xs) =
      let more = one_more_is_found_or_left (f x) x (filter_map f xs) (filter (λ (y : A). is_none (f y)) xs) (length xs) (parted f xs) in
      omega (arith, more)

-- each was accepted or refused
judged_count : (judged : List Judgement)
    → length (filter (λ (one : Judgement). one.1) judged) + length (filter (λ (one : Judgement). not one.1) judged)
    ≡ length judged
judged_count [] = refl
judged_count ((sig, true) ∷ rest) = omega (arith, judged_count rest)
judged_count ((sig, false) ∷ rest) = omega (arith, judged_count rest)

-- all lines of which is told
pub line_count : {V : Type 0} (rules : Rules) (steps : Steps V) (view : PeriodView) (d : Detached)
    (lines : List DetachedLine) (tally : Tally) (old new : V) → TellsLines rules steps view d lines tally old new
    → length tally.checked + tally.skipped + tally.bad ≡ length lines
line_count {V} rules steps view d lines tally old new tells =
    let judged = tells.judged in
    let checked = ap (λ (l : List OfferedSignature). length l) tells.checked_are in
    let all = ap (λ (l : List OfferedSignature). length l) tells.all in
    omega (
      arith,
      checked,
      all,
      length-map judged (λ (one : Judgement). one.0),
      length-map (filter (λ (one : Judgement). one.1) judged) (λ (one : Judgement). one.0),
      judged_count judged,
      parted (offered_by view d) lines,
      tells.bad_are,
      tells.skipped_are,
    )
