-- Flags that are picked one after the other.
use Rattle.std.proofs.Common.{◌≡◌, ℕ, zero, suc, ◌+◌, ◌<◌, Bool, true, false, ◌||◌, List, [], ◌∷◌, ◌++◌, Option, Some}
use Rattle.std.proofs.Common.{None, length, get_or, take, drop, map, refl, sym, ap, ◌∙◌, add-one, drop-cons}
use Rattle.std.proofs.lemmas.List.{Elements.{All-nil, All-cons, All-append, All-same}, take_more, map-append}
use Rattle.std.{proofs.lemmas.Option.{same_Some, get_or_from_slice_get, slice_get_within}, specs.Prelude.{All, IfSome}}
use Rattle.std.specs.{Prelude.{filter, slice_get}, Option.option_to_list, List.fold, Str.bytes_eq}
use Rattle.dir_values.specs.FlagSets.{has_flag, with_flag}
use Rattle.compute_terms.specs.declared.identity.EdPart.{EdPart}
use Rattle.consensus_calc.specs.Picking.{with_flag_if, is_set_by, picked_flags}

module _ {A : Type 0} where
  at_suc : (xs : List A) (i : ℕ) (x : A) → slice_get xs i ≡ Some x → drop i xs ≡ x ∷ drop (suc i) xs
  at_suc [] i x e = absurd cc
  at_suc (y ∷ ys) zero x e = ap (λ (z : A). z ∷ ys) (same_Some y x e)
  at_suc (y ∷ ys) (suc i) x e = at_suc ys i x e

  -- what is left from a place on is what stands there, and what is left behind it
  pub at_place : (xs : List A) (i : ℕ) (x : A) → slice_get xs i ≡ Some x → drop i xs ≡ x ∷ drop (i + 1) xs
  at_place xs i x e = rw add-one (at_suc xs i x e)

  -- one more element of a list that a function is put to
  pub map_more : {B : Type 0} (f : A → B) (xs : List A) (i : ℕ) (x : A) (out new : List B) (y : B) → i < length xs → x ≡ get_or xs i x → out ≡ map f (take i xs) → y ≡ f x → new ≡ out ++ y ∷ [] → new ≡ map f (take (i + 1) xs)
  map_more f xs i x out new y lt is so_far says pushed =
      pushed ∙ ap (λ (l : List _). l ++ y ∷ []) so_far ∙ ap (λ (z : _). map f (take i xs) ++ z ∷ []) says
      ∙ sym (ap (map f) (take_more xs i x lt ∙ ap (λ (z : A). take i xs ++ z ∷ []) (sym is)) ∙ map-append f (take i xs) (x ∷ []))

  -- the same, where the element is known by its look-up
  pub map_more_at : {B : Type 0} (f : A → B) (xs : List A) (i : ℕ) (x : A) (out new : List B) (y : B) → slice_get xs i ≡ Some x → out ≡ map f (take i xs) → y ≡ f x → new ≡ out ++ y ∷ [] → new ≡ map f (take (i + 1) xs)
  map_more_at f xs i x out new y at so_far says pushed = map_more f xs i x out new y (slice_get_within xs i x at) (sym (get_or_from_slice_get xs i x x at)) so_far says pushed

  -- what holds of all, and of one more where there is one
  pub all_more : (P : A → Type 0) (out new : List A) (one : Option A) → All P out → IfSome one P → new ≡ out ++ option_to_list one → All P new
  all_more P out new None all holds is = All-same P new (out ++ []) is (All-append P out [] all (All-nil P))
  all_more P out new (Some x) all holds is = All-same P new (out ++ x ∷ []) is (All-append P out (x ∷ []) all (All-cons P x [] holds (All-nil P)))

filter_by : (b : Bool) (p : List ℕ → Bool) (flag : List ℕ) (rest set : List (List ℕ)) → p flag ≡ b → fold with_flag (with_flag_if set flag b) (filter p rest) ≡ fold with_flag set (filter p (flag ∷ rest))
filter_by true p flag rest set e = rw e refl
filter_by false p flag rest set e = rw e refl

pub filter_more : (p : List ℕ → Bool) (flags : List (List ℕ)) (i : ℕ) (flag : List ℕ) (set new : List (List ℕ)) (wanted : Bool) → slice_get flags i ≡ Some flag → wanted ≡ p flag → new ≡ with_flag_if set flag wanted
    → fold with_flag new (filter p (drop (i + 1) flags)) ≡ fold with_flag set (filter p (drop i flags))
filter_more p flags i flag set new wanted e w n =
    ap (λ (s : List (List ℕ)). fold with_flag s (filter p (drop (i + 1) flags))) n
    ∙ filter_by wanted p flag (drop (i + 1) flags) set (sym w)
    ∙ sym (ap (λ (l : List (List ℕ)). fold with_flag set (filter p l)) (at_place flags i flag e))

picked_by : (b : Bool) (ed : EdPart) (flag : List ℕ) (flags set : List (List ℕ)) (count need : ℕ) (counts needed : List ℕ) → is_set_by ed flag count need ≡ b
    → fold with_flag (with_flag_if set flag b) (picked_flags ed flags counts needed) ≡ fold with_flag set (picked_flags ed (flag ∷ flags) (count ∷ counts) (need ∷ needed))
picked_by true ed flag flags set count need counts needed e = rw e refl
picked_by false ed flag flags set count need counts needed e = rw e refl

pub picked_more : (ed : EdPart) (flags : List (List ℕ)) (counts needed : List ℕ) (i : ℕ) (flag : List ℕ) (set new : List (List ℕ)) (wanted : Bool) → i < length counts → i < length needed
    → slice_get flags i ≡ Some flag → wanted ≡ is_set_by ed flag (get_or counts i 0) (get_or needed i 0) → new ≡ with_flag_if set flag wanted
    → fold with_flag new (picked_flags ed (drop (i + 1) flags) (drop (i + 1) counts) (drop (i + 1) needed)) ≡ fold with_flag set (picked_flags ed (drop i flags) (drop i counts) (drop i needed))
picked_more ed flags counts needed i flag set new wanted below within e w n =
    let one : drop i counts ≡ get_or counts i 0 ∷ drop (i + 1) counts = rw add-one (drop-cons counts i 0 below) in
    let two : drop i needed ≡ get_or needed i 0 ∷ drop (i + 1) needed = rw add-one (drop-cons needed i 0 within) in
    ap (λ (s : List (List ℕ)). fold with_flag s (picked_flags ed (drop (i + 1) flags) (drop (i + 1) counts) (drop (i + 1) needed))) n
    ∙ picked_by wanted ed flag (drop (i + 1) flags) set (get_or counts i 0) (get_or needed i 0) (drop (i + 1) counts) (drop (i + 1) needed) (sym w)
    ∙ sym (rw (at_place flags i flag e, one, two) refl)

-- the flags that are picked by their counts are those that pass the test of these
pub picked_filter : (ed : EdPart) (flags : List (List ℕ)) (f g : List ℕ → ℕ) → picked_flags ed flags (map f flags) (map g flags) ≡ filter (λ flag. is_set_by ed flag (f flag) (g flag)) flags
picked_filter ed [] f g = refl
picked_filter ed (flag ∷ flags) f g = rw (picked_filter ed flags f g) refl

pub has_behind : (flags : List (List ℕ)) (i : ℕ) (flag word : List ℕ) → slice_get flags i ≡ Some flag → bytes_eq flag word ≡ false → has_flag (drop (i + 1) flags) word ≡ has_flag (drop i flags) word
has_behind flags i flag word e n = sym (ap (λ (l : List (List ℕ)). has_flag l word) (at_place flags i flag e) ∙ rw n refl)
