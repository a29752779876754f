-- Signatures in their order are those that they were.
use Rattle.std.proofs.{Common.{Bool, true, false, List, [], ◌∷◌}, lemmas.List.Elements.{All-cons, All-head, All-nil}}
use Rattle.std.{proofs.lemmas.List.Elements.All-tail, specs.{Prelude.{All, if◌then◌else◌}, List.fold}}
use Rattle.detached_doc.specs.{Order.{in_order, stands_before, with_line}, declared.detached.DetachedLine.DetachedLine}

module _ (P : DetachedLine → Type 0) where
  -- one more, wherever it is put
  with_one : (lines : List DetachedLine) (line : DetachedLine) → All P lines → P line → All P (with_line lines line)
  with_one [] line each is = All-cons P line [] is (All-nil P)
  with_one (first ∷ rest) line each is =
      by_test (stands_before line first)
      (with_one rest line (All-tail P first rest each) is)
    where
      by_test : (t : Bool) → All P (with_line rest line)
          → All P (if t then line ∷ first ∷ rest else first ∷ with_line rest line)
      by_test true more = All-cons P line (first ∷ rest) is each
      by_test false more = All-cons P first (with_line rest line) (All-head P first rest each) more

  one_by_one : (before lines : List DetachedLine) → All P before → All P lines → All P (fold with_line before lines)
  one_by_one before [] old new = old
  one_by_one before (line ∷ lines) old new =
      one_by_one (with_line before line) lines (with_one before line old (All-head P line lines new))
      (All-tail P line lines new)

  -- what holds of each holds of each in their order
  pub each_in_order : (lines : List DetachedLine) → All P lines → All P (in_order lines)
  each_in_order lines each = one_by_one [] lines (All-nil P) each
