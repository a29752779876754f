-- A text, a set or a list of which the elements so far are done, and one element more.
use Rattle.std.proofs.Common.{◌≡◌, ℕ, ◌+◌, ◌<◌, List, [], ◌∷◌, ◌++◌, Some, length, get_or, drop, map, sym, ap, ◌∙◌}
use Rattle.std.proofs.{Common.{append_assoc, Bool}, lemmas.List.{drop_more, Elements.filter-append, Sums.fold-append}}
use Rattle.std.{proofs.lemmas.Option.{get_or_from_slice_get, slice_get_within}, specs.Prelude.{slice_get, filter}}
use Rattle.std.specs.List.{fold, flat_map}
use Rattle.dir_values.specs.FlagSets.{with_flag}

module _ {A : Type 0} where
  -- what is left from a place on is what stands there, and what is left behind it
  pub at_item : (xs : List A) (i : ℕ) (x : A) → i < length xs → x ≡ get_or xs i x → drop i xs ≡ x ∷ drop (i + 1) xs
  at_item xs i x lt is = drop_more xs i x lt ∙ ap (λ (y : A). y ∷ drop (i + 1) xs) (sym is)

  -- the same, where the element is known by its look-up
  pub at_place : (xs : List A) (i : ℕ) (x : A) → slice_get xs i ≡ Some x → drop i xs ≡ x ∷ drop (i + 1) xs
  at_place xs i x at = at_item xs i x (slice_get_within xs i x at) (sym (get_or_from_slice_get xs i x x at))

  -- the text of one element more comes behind that of those before
  pub text_more : (f : A → List ℕ) (out new : List ℕ) (x : A) (rest all : List A) (whole : List ℕ)
      → all ≡ x ∷ rest → new ≡ out ++ f x → out ++ flat_map f all ≡ whole → new ++ flat_map f rest ≡ whole
  text_more f out new x rest all whole splits pushed so_far =
      ap (λ (l : List ℕ). l ++ flat_map f rest) pushed ∙ append_assoc out (f x) (flat_map f rest)
      ∙ sym (ap (λ (l : List A). out ++ flat_map f l) splits) ∙ so_far

  -- the word of one element more is put into a set
  pub word_more : (g : A → List ℕ) (set new : List (List ℕ)) (x : A) (rest all : List A) (whole : List (List ℕ))
      → all ≡ x ∷ rest → new ≡ with_flag set (g x) → fold with_flag set (map g all) ≡ whole
      → fold with_flag new (map g rest) ≡ whole
  word_more g set new x rest all whole splits put so_far =
      ap (λ (s : List (List ℕ)). fold with_flag s (map g rest)) put
      ∙ sym (ap (λ (l : List A). fold with_flag set (map g l)) splits) ∙ so_far

-- of one element more what passes a test comes behind that of those before
pub filter_more : {A : Type 0} (p : A → Bool) (out new : List A) (x : A) (rest all whole : List A)
    → all ≡ x ∷ rest → new ≡ out ++ filter p (x ∷ []) → out ++ filter p all ≡ whole → new ++ filter p rest ≡ whole
filter_more p out new x rest all whole splits pushed so_far =
    ap (λ (l : List _). l ++ filter p rest) pushed ∙ append_assoc out (filter p (x ∷ [])) (filter p rest)
    ∙ ap (λ (l : List _). out ++ l) (sym (filter-append p (x ∷ []) rest))
    ∙ sym (ap (λ (l : List _). out ++ filter p l) splits) ∙ so_far

-- a word more is put into a set
pub flag_more : (set new : List (List ℕ)) (x : List ℕ) (rest all whole : List (List ℕ))
    → all ≡ x ∷ rest → new ≡ with_flag set x → fold with_flag set all ≡ whole → fold with_flag new rest ≡ whole
flag_more set new x rest all whole splits put so_far =
    ap (λ (s : List (List ℕ)). fold with_flag s rest) put
    ∙ sym (ap (λ (l : List (List ℕ)). fold with_flag set l) splits) ∙ so_far
