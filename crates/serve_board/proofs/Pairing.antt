-- Pairs of passes that have seen nothing, one of each lock.
use Rattle.std.proofs.Common.{◌≡◌, ◌≢◌, ℕ, zero, suc, ◌+◌, ◌<◌, ◌≤◌, List, [], ◌∷◌, ◌++◌, length, Some, refl, sym, ap}
use Rattle.std.proofs.{Common.{◌∙◌, arith, length-append}, lemmas.List.Elements.{All-push, All-weaker}}
use Rattle.std.{proofs.lemmas.List.Quantifiers.all_pairs_push, specs.Prelude.{All, slice_get}}
use Rattle.descriptor_doc.specs.declared.descriptor.Descriptor.{Descriptor}
use Rattle.vote_pool.specs.Pools.{Pooled}
use Rattle.period_lock.specs.Turns.{Lock, Knowledge, AreDealt, newcomer}
use Rattle.period_terms.specs.declared.{entry.Entry.Entry, state.State.State}
use Rattle.serve_board.specs.{Boards.{Locks, Parts, IsAt, IsPair}, Passes.DifferInNumber}

module _ {A : Type 0} where
  before_last : (xs : List A) (x : A) (k : ℕ) → k < length xs → slice_get (xs ++ x ∷ []) k ≡ slice_get xs k
  before_last [] x k below = absurd (omega (arith, below))
  before_last (z ∷ zs) x zero below = refl
  before_last (z ∷ zs) x (suc k) below = before_last zs x k (omega (arith, below))

  last_stands : (xs : List A) (x : A) (k : ℕ) → length xs ≡ k → slice_get (xs ++ x ∷ []) k ≡ Some x
  last_stands [] x zero e = refl
  last_stands [] x (suc k) e = absurd (omega (arith, e))
  last_stands (z ∷ zs) x zero e = absurd (omega (arith, e))
  last_stands (z ∷ zs) x (suc k) e = last_stands zs x k (omega (arith, e))

  same_some : (x y : A) → Some x ≡ Some y → x ≡ y
  same_some x y e = cc

module _ {S X : Type 0} (lock : Lock S) where
  -- passes that were dealt, but for the last
  pub record AreButLast (count : ℕ) (new : List (Knowledge S X)) (last : Knowledge S X) : Type 0 where
    pub count_is : count ≡ length new + 1
    pub dealt : AreDealt lock (length new) new
    pub last_is : last ≡ newcomer lock (length new)

  -- the last pass that was dealt has the greatest number
  pub without_last : (count : ℕ) (old new : List (Knowledge S X)) (last : Knowledge S X) → old ≡ new ++ last ∷ []
      → AreDealt lock count old → AreButLast count new last
  without_last count old new last is dealt =
      let long : length old ≡ length new + 1 =
      ap (λ (l : List (Knowledge S X)). length l) is ∙ length-append new (last ∷ []) in
      let counted : count ≡ length new + 1 = sym dealt.length_is ∙ long in
      record {
        count_is = counted;
        dealt = record {
          length_is = refl;
          each = λ (k : ℕ) (below : k < length new). sym (before_last new last k below)
              ∙ ap (λ (l : List (Knowledge S X)). slice_get l k) (sym is)
              ∙ dealt.each k (omega (arith, below, counted));
        };
        last_is =
            same_some last (newcomer lock (length new))
            (sym (last_stands new last (length new) refl)
            ∙ ap (λ (l : List (Knowledge S X)). slice_get l (length new)) (sym is)
            ∙ dealt.each (length new) (omega (arith, counted)));
      }

-- passes of one number are a pair
pub pair_of : (state : Lock State) (pool : Lock Pooled) (n : ℕ) (here : Knowledge State Entry)
    (there : Knowledge Pooled Descriptor) → here ≡ newcomer state n → there ≡ newcomer pool n
    → IsPair state pool (record { state = here; pool = there })
pair_of state pool n here there h t =
    let number : here.number ≡ n = ap (λ (k : Knowledge State Entry). k.number) h in
    record {
      here = h ∙ ap (λ (m : ℕ). newcomer state m) (sym number);
      there = t ∙ ap (λ (m : ℕ). newcomer pool m) (sym number);
    }

-- the number of one pass more is below all others'
pub numbers_above : (n count : ℕ) (passes : List Parts) (new : Parts) → new.state.number ≡ n → count ≡ n + 1
    → All (λ pass. count ≤ pass.state.number) passes → All (λ pass. n ≤ pass.state.number) (passes ++ new ∷ [])
numbers_above n count passes new is one above =
    All-push (λ (pass : Parts). n ≤ pass.state.number) passes new
    (All-weaker (λ (pass : Parts). count ≤ pass.state.number) (λ (pass : Parts). n ≤ pass.state.number)
    (λ pass below. omega (arith, below, one)) passes above)
    (omega (arith, is))

-- and differs from them
pub numbers_differ : (n count : ℕ) (passes : List Parts) (new : Parts) → new.state.number ≡ n → count ≡ n + 1
    → All (λ pass. count ≤ pass.state.number) passes → DifferInNumber passes → DifferInNumber (passes ++ new ∷ [])
numbers_differ n count passes new is one above differ =
    all_pairs_push (λ (a b : Parts). a.state.number ≢ b.state.number) passes new differ
    (λ k d below same. absurd (omega (arith, above k d below, same, is, one)))
