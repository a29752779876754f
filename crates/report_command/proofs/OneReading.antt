-- An answer is one, and not two.
use Rattle.std.proofs.{Common.{◌≡◌, Bool, true, false, Result, Ok, Err, sym, ap, ◌∙◌}, lemmas.Bool.false≢true}

module _ {A E : Type 0} where
  abbrev is_ok : Result A E → Bool
  is_ok (Ok x) = true
  is_ok (Err e) = false

  abbrev ok_or : A → Result A E → A
  ok_or other (Ok x) = x
  ok_or other (Err e) = other

  -- no answer is both
  pub not_both : (answer : Result A E) (x : A) (e : E) → answer ≡ Ok x → answer ≡ Err e → ⊥
  not_both answer x e ok err = false≢true (sym (ap is_ok err) ∙ ap is_ok ok)

  -- and it has one value
  pub one_value : (answer : Result A E) (x y : A) → answer ≡ Ok x → answer ≡ Ok y → x ≡ y
  one_value answer x y first second = ap (ok_or x) (sym first ∙ second)
