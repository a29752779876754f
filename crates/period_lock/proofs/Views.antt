-- What is said of each view, and where the value is, after a view has changed or a new one has come.
use Rattle.std.proofs.Common.{◌≡◌, ◌≢◌, ◌⊎◌, ℕ, zero, suc, List, [], ◌∷◌, ◌++◌, set, Option, Bool, true, false, refl}
use Rattle.std.proofs.{Common.{sym, ap, ◌∙◌, subst, ⊎_elim, inl, inr}, lemmas.Bool.false≢true}
use mathlib.Core.Option.{some, some-ne-none, some-injective}
use lib.ListN.{get_elem?}
use Rattle.atomic_table.{specs.Table.State, proofs.Lists.{at_set, at_snoc, at_longer, set_else}}
use Rattle.period_lock.specs.{declared.rule.View.View, Kept.{IsHome, IsOut}}

pub not_true : (b : Bool) → (b ≡ true → ⊥) → b ≡ false
not_true true never = absurd (never refl)
not_true false never = refl

pub not_both : (b : Bool) → b ≡ false → b ≡ true → ⊥
not_both b f t = false≢true (sym f ∙ t)

module _ {A : Type 0} (P : A → Type 0) where
  pub each_set : (l : List A) (i : ℕ) (a : A) → ((j : ℕ) (u : A) → get_elem? l j ≡ some u → P u) → P a
      → (j : ℕ) (u : A) → get_elem? (set l i a) j ≡ some u → P u
  each_set l i a all new j u e =
      ⊎_elim
      (λ (x : (j ≡ i) × (a ≡ u)). subst P x.1 new)
      (λ (x : (j ≢ i) × (get_elem? l j ≡ some u)). all j u x.1)
      (at_set l i j a u e)

  pub each_snoc : (l : List A) (a : A) → ((j : ℕ) (u : A) → get_elem? l j ≡ some u → P u) → P a → (j : ℕ) (u : A)
      → get_elem? (l ++ a ∷ []) j ≡ some u → P u
  each_snoc l a all new j u e =
      ⊎_elim
      (λ (x : get_elem? l j ≡ some u). all j u x)
      (λ (x : a ≡ u). subst P x new)
      (at_snoc l a u j e)

  pub each_one : (a : A) → P a → (j : ℕ) (u : A) → get_elem? (a ∷ []) j ≡ some u → P u
  each_one a one zero u e = subst P (some-injective a u e) one
  each_one a one (suc j) u e = absurd (some-ne-none u (sym e))

module _ {T S X : Type 0} (stands : T → S → List X → Type 0) (start : S) (log : List (ℕ × X)) where
  -- the turn is free, or one seat has it
  abbrev pub Place : State (Option T) (View S X) → Type 0
  Place state = IsHome stands start log state ⊎ IsOut log state

  -- a seat without the turn got another view without it
  pub place_set : (s : State (Option T) (View S X)) (by : ℕ) (v w : View S X) → get_elem? s.views by ≡ some v
      → v.holds ≡ false → w.holds ≡ false → Place s
      → Place record { words = s.words; homes = s.homes; views = set s.views by w }
  place_set s by v w at free idle place =
      ⊎_elim
      (λ (home : IsHome stands start log s).
      inl (record {
        word = home.word;
        value = home.value;
        home = home.home;
        stands_for = home.stands_for;
        nobody =
            each_set (λ (u : View S X). u.holds ≡ false) s.views by w home.nobody idle;
      }))
      (λ (out : IsOut log s).
      let apart : out.holder ≢ by = λ same. not_both v.holds free
      (ap (λ (u : View S X). u.holds)
      (some-injective v out.view (sym at ∙ subst (λ (n : ℕ). get_elem? s.views n ≡ some out.view) same out.there))
      ∙ out.holds) in
      inr (record {
        word = out.word;
        home = out.home;
        holder = out.holder;
        view = out.view;
        there = set_else s.views by out.holder w apart ∙ out.there;
        holds = out.holds;
        knows = λ j u e holds. ⊎_elim
            (λ (x : (j ≡ by) × (w ≡ u)). absurd (not_both w.holds idle (ap (λ (y : View S X). y.holds) x.1 ∙ holds)))
            (λ (x : (j ≢ by) × (get_elem? s.views j ≡ some u)). out.knows j u x.1 holds)
            (at_set s.views by j w u e);
      }))
      place

  -- a new seat came, without the turn
  pub place_snoc : (s : State (Option T) (View S X)) (w : View S X) → w.holds ≡ false → Place s
      → Place record { words = s.words; homes = s.homes; views = s.views ++ w ∷ [] }
  place_snoc s w idle place =
      ⊎_elim
      (λ (home : IsHome stands start log s).
      inl (record {
        word = home.word;
        value = home.value;
        home = home.home;
        stands_for = home.stands_for;
        nobody =
            each_snoc (λ (u : View S X). u.holds ≡ false) s.views w home.nobody idle;
      }))
      (λ (out : IsOut log s).
      inr (record {
        word = out.word;
        home = out.home;
        holder = out.holder;
        view = out.view;
        there = at_longer s.views (w ∷ []) out.holder out.view out.there;
        holds = out.holds;
        knows = λ j u e holds. knows_more s w idle out j u e holds;
      }))
      place
    where
      knows_more : (s : State (Option T) (View S X)) (w : View S X) → w.holds ≡ false
          → (out : IsOut log s) (j : ℕ) (u : View S X) → get_elem? (s.views ++ w ∷ []) j ≡ some u → u.holds ≡ true
          → (j ≡ out.holder) × (u.own.seen ≡ log)
      knows_more s w idle out j u e holds =
          ⊎_elim
          (λ (x : get_elem? s.views j ≡ some u). out.knows j u x holds)
          (λ (x : w ≡ u). absurd (not_both w.holds idle (ap (λ (y : View S X). y.holds) x ∙ holds)))
          (at_snoc s.views w u j e)
