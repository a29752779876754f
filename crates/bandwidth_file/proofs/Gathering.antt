-- What the items of a longer list say.
use Rattle.std.proofs.Common.{◌≡◌, List, [], ◌∷◌, ◌++◌, Option, Some, None, option_to_list, slice_get, refl, sym, ap}
use Rattle.std.{proofs.Common.{◌∙◌, append-nil, append_assoc}, specs.List.cons_option}
use Rattle.bandwidth_file.specs.Gathered.{gathered_values, gathered_behind}

module _ {B : Type 0} where
  onto : (first : Option B) (xs ys : List B) → cons_option first (xs ++ ys) ≡ cons_option first xs ++ ys
  onto None xs ys = refl
  onto (Some x) xs ys = refl

  alone : (first : Option B) → cons_option first [] ≡ option_to_list first
  alone None = refl
  alone (Some x) = refl

  head : (xs rest : List B) (first : Option B) (value : B) → xs ≡ [] → first ≡ Some value → slice_get (xs ++ cons_option first rest) 0 ≡ Some value
  head xs rest first value none is = rw (none, is) refl

module _ {A B : Type 0} where
  -- the items of two lists, one behind the other
  gathered_from_two_lists : (says : List A → A → Option B) (before xs ys : List A)
      → gathered_behind says before (xs ++ ys) ≡ gathered_behind says before xs ++ gathered_behind says (before ++ xs) ys
  gathered_from_two_lists says before [] ys = ap (λ (l : List A). gathered_behind says l ys) (sym (append-nil before))
  gathered_from_two_lists says before (x ∷ xs) ys =
      ap (cons_option (says before x)) (gathered_from_two_lists says (before ++ x ∷ []) xs ys)
      ∙ onto (says before x) (gathered_behind says (before ++ x ∷ []) xs) (gathered_behind says ((before ++ x ∷ []) ++ xs) ys)
      ∙ ap (λ (l : List A). cons_option (says before x) (gathered_behind says (before ++ x ∷ []) xs) ++ gathered_behind says l ys)
      (append_assoc before (x ∷ []) xs)

  -- one more item
  pub gathered_one : (says : List A → A → Option B) (xs : List A) (x : A) → gathered_values says (xs ++ x ∷ []) ≡ gathered_values says xs ++ option_to_list (says xs x)
  gathered_one says xs x = gathered_from_two_lists says [] xs (x ∷ []) ∙ ap (λ (l : List B). gathered_values says xs ++ l) (alone (says xs x))

  -- the first that says something says the first thing
  pub gathered_first : (says : List A → A → Option B) (xs : List A) (x : A) (ys : List A) (value : B) → gathered_values says xs ≡ [] → says xs x ≡ Some value
      → slice_get (gathered_values says (xs ++ x ∷ ys)) 0 ≡ Some value
  gathered_first says xs x ys value none is =
      ap (λ (l : List B). slice_get l 0) (gathered_from_two_lists says [] xs (x ∷ ys))
      ∙ head (gathered_values says xs) (gathered_behind says (xs ++ x ∷ []) ys) (says xs x) value none is
