-- The chosen value is one of the values, and none outdoes it.
use Rattle.std.proofs.Common.{◌≡◌, ℕ, zero, suc, ◌<◌, ◌≤◌, Bool, true, false, not, ◌&&◌, ◌||◌, List, [], ◌∷◌, Some}
use Rattle.std.proofs.{Common.{length, get_or, refl, sym, ap, ◌∙◌, arith}, lemmas.Bool.{false≢true, Decides.nat_tests}}
use Rattle.std.{proofs.lemmas.Option.same_Some, specs.{Prelude.{Contains, nat_lt, nat_eq}, List.{find, list_all}}}
use Rattle.std.specs.{declared.cmp.Ordering.Ordering, Ordering.is_gt}
use Rattle.count_terms.specs.Choosing.{times, outdoes, leads}
use Rattle.field_votes.specs.Plain.{IsChosen, ChosenIsChosen}

and_first : (a b : Bool) → (a && b) ≡ true → a ≡ true
and_first true b h = refl
and_first false b h = h

and_last : (a b : Bool) → (a && b) ≡ true → b ≡ true
and_last true b h = h
and_last false b h = absurd (false≢true h)

not_true : (b : Bool) → not b ≡ true → b ≡ false
not_true true h = absurd (false≢true h)
not_true false h = refl

or_first : (a b : Bool) → (a || b) ≡ false → a ≡ false
or_first true b h = absurd (false≢true (sym h))
or_first false b h = refl

or_last : (a b : Bool) → (a || b) ≡ false → b ≡ false
or_last true b h = absurd (false≢true (sym h))
or_last false b h = h

module _ {A : Type 0} (p : A → Bool) where
  -- what is found is a member that passes
  data FoundIn (list : List A) (x : A) : Type 0 where
    found_in : Contains list x → p x ≡ true → FoundIn list x

  later : (y : A) (ys : List A) (x : A) → FoundIn ys x → FoundIn (y ∷ ys) x
  later y ys x (found_in at passes) = found_in (suc at.0, omega (arith, at.1), at.2) passes

  found_by : (b : Bool) (y : A) (ys : List A) (x : A) → p y ≡ b → find p (y ∷ ys) ≡ Some x → (find p ys ≡ Some x → FoundIn ys x) → FoundIn (y ∷ ys) x
  found_by true y ys x e h more = let is : y ≡ x = same_Some y x (rw e at h) in found_in (0, omega arith, is) (ap p (sym is) ∙ e)
  found_by false y ys x e h more = later y ys x (more (rw e at h))

  found : (list : List A) (x : A) → find p list ≡ Some x → FoundIn list x
  found [] x h = absurd cc
  found (y ∷ ys) x h = found_by _ y ys x refl h (λ g. found ys x g)

  all_at : (list : List A) (k : ℕ) (d y : A) → list_all p list ≡ true → k < length list → get_or list k d ≡ y → p y ≡ true
  all_at [] k d y h lt e = absurd (omega (arith, lt))
  all_at (z ∷ zs) zero d y h lt e = ap p (sym e) ∙ and_first (p z) (list_all p zs) h
  all_at (z ∷ zs) (suc k) d y h lt e = all_at zs k d y (and_last (p z) (list_all p zs) h) (omega (arith, lt)) e

module _ {A : Type 0} (order : A → A → Ordering) where
  stays : (list : List A) (x y : A) → leads order list x ≡ true → Contains list y → outdoes order list y x ≡ false
  stays list x y h at = not_true (outdoes order list y x) (all_at (λ z. not (outdoes order list z x)) list at.0 y y h at.1 at.2)

  most_by : (list : List A) (x y : A) → outdoes order list y x ≡ false → times order list y ≤ times order list x
  most_by list x y h =
      let more : nat_lt (times order list x) (times order list y) ≡ false = or_first (nat_lt (times order list x) (times order list y)) (nat_eq (times order list x) (times order list y) && is_gt (order y x)) h in
      grind (arith, nat_tests, more)

  best_by : (list : List A) (x y : A) → outdoes order list y x ≡ false → times order list y ≡ times order list x → is_gt (order y x) ≡ false
  best_by list x y h e =
      let both : (nat_eq (times order list x) (times order list y) && is_gt (order y x)) ≡ false = or_last (nat_lt (times order list x) (times order list y)) (nat_eq (times order list x) (times order list y) && is_gt (order y x)) h in
      let level : nat_eq (times order list x) (times order list y) ≡ true = rw e (grind (arith, nat_tests)) in
      rw level at both

  chosen_by : (list : List A) (x : A) → FoundIn (leads order list) list x → IsChosen order list x
  chosen_by list x (found_in at passes) = record {
    member = at;
    most = λ y i. most_by list x y (stays list x y passes i);
    best = λ y i e. best_by list x y (stays list x y passes i) e;
  }

  pub chosen_law : ChosenIsChosen order
  chosen_law list x h = chosen_by list x (found (leads order list) list x h)
