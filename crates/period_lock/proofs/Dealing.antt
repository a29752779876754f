-- The first passes, dealt one by one.
use Rattle.std.proofs.Common.{◌≡◌, ◌≢◌, ℕ, zero, suc, ◌+◌, List, [], ◌∷◌, ◌++◌, length, Some, None, refl, sym, ap, ◌∙◌}
use Rattle.std.{proofs.Common.{subst, arith, length-append}, specs.Prelude.slice_get}
use mathlib.Core.Logic.{dite}
use native.Mathlib.Decide.{ℕ_discrete}
use Rattle.atomic_table.specs.Table.{Me}
use Rattle.period_lock.specs.{declared.rule.{View.View, Part.Part}, Turns.{Lock, Knowledge, AreDealt, newcomer}}
use Rattle.period_lock.specs.Kept.{IsFree, fresh_part, fresh_parts, gathered_view, without_first, first_of}

module _ {A : Type 0} where
  get_front : (xs : List A) (x : A) (k : ℕ) (y : A) → slice_get xs k ≡ Some y → slice_get (xs ++ x ∷ []) k ≡ Some y
  get_front [] x k y e = absurd (none_is y e)
    where
      none_is : (b : A) → None ≡ Some b → ⊥
      none_is b e = cc
  get_front (z ∷ zs) x zero y e = e
  get_front (z ∷ zs) x (suc k) y e = get_front zs x k y e

  get_end : (xs : List A) (x : A) (k : ℕ) → length xs ≡ k → slice_get (xs ++ x ∷ []) k ≡ Some x
  get_end [] x zero e = refl
  get_end [] x (suc k) e = absurd (omega (arith, e))
  get_end (z ∷ zs) x zero e = absurd (omega (arith, e))
  get_end (z ∷ zs) x (suc k) e = get_end zs x k (omega (arith, e))

module _ {S X : Type 0} (lock : Lock S) where
  push_dealt : (n : ℕ) (xs : List (Knowledge S X)) (x : Knowledge S X) → AreDealt lock n xs → x ≡ newcomer lock n
      → AreDealt lock (n + 1) (xs ++ x ∷ [])
  push_dealt n xs x dealt is = record {
    length_is = omega (arith, length-append xs (x ∷ []), dealt.length_is);
    each = λ k below. dite (ℕ_discrete k n)
        (λ (same : k ≡ n). get_end xs x k (dealt.length_is ∙ sym same) ∙ ap (λ y. Some y) is
        ∙ ap (λ m. Some (newcomer lock m)) (sym same))
        (λ (apart : k ≢ n). get_front xs x k (newcomer lock k) (dealt.each k (omega (arith, below, apart))));
  }

  -- one more pass was dealt
  pub dealt_push : (n k m : ℕ) (xs ys : List (Knowledge S X)) (x : Knowledge S X) → AreDealt lock n xs
      → x ≡ newcomer lock k → k ≡ n → ys ≡ xs ++ x ∷ [] → n + 1 ≡ m → AreDealt lock m ys
  dealt_push n k m xs ys x dealt is same pushed more =
      subst (λ (p : ℕ × List (Knowledge S X)). AreDealt lock p.0 p.1) (λ i. (more i, sym pushed i))
      (push_dealt n xs x dealt (is ∙ ap (λ j. newcomer lock j) same))

module _ {T S X : Type 0} (start : S) where
  -- the seat that was split off
  pub given_away : (own : Part X) (from left rest : ℕ) (me given : Me T (View S X))
      → me ≡ (gathered_view start own (fresh_parts from left), []) → left ≡ suc rest → given ≡ (first_of me.0, [])
      → IsFree start (fresh_part from) given
  given_away own from left rest me given is more part =
      part ∙ ap (λ (m : Me T (View S X)). (first_of m.0, []))
      (is ∙ ap (λ (n : ℕ). (gathered_view start own (fresh_parts from n), [])) more)

  -- the seat that it was split from
  pub left_over : (own : Part X) (from left next rest : ℕ) (me after : Me T (View S X))
      → me ≡ (gathered_view start own (fresh_parts from left), []) → left ≡ suc rest → suc from ≡ next
      → after ≡ (without_first me.0, me.1)
      → after ≡ (gathered_view start own (fresh_parts next rest), [])
  left_over own from left next rest me after is more one part =
      part ∙ ap (λ (m : Me T (View S X)). (without_first m.0, m.1))
      (is ∙ ap (λ (n : ℕ). (gathered_view start own (fresh_parts from n), [])) more)
      ∙ ap (λ (n : ℕ). (gathered_view start own (fresh_parts n rest), [])) one

  -- the seat when all parts but its own are given away
  pub last_one : (own : Part X) (from left : ℕ) (me : Me T (View S X))
      → me ≡ (gathered_view start own (fresh_parts from left), []) → left ≡ 0 → IsFree start own me
  last_one own from left me is none_left = is ∙ ap (λ (n : ℕ). (gathered_view start own (fresh_parts from n), [])) none_left
