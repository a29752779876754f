-- Two majorities of a roster meet, where no more are counted than it has authorities.
use Rattle.std.proofs.Common.{◌≡◌, ◌⊎◌, ℕ, ◌+◌, ◌≤◌, Bool, true, false, List, [], ◌∷◌, length, refl, arith, inl, inr}
use Rattle.std.{proofs.lemmas.{Bool.ltb-true, List.Sums.length-filter}, specs.Prelude.{count_by, filter}}
use Rattle.count_terms.specs.Counts.{over}

module _ {X : Type 0} where
  -- some member passes both tests
  abbrev pub HasBoth : (X → Bool) → (X → Bool) → Type 0
  HasBoth p q = (x : X) × (p x ≡ true) × (q x ≡ true)

  -- it does, or no more pass them than there are
  abbrev Meets : (X → Bool) → (X → Bool) → List X → Type 0
  Meets p q list = HasBoth p q ⊎ (length (filter p list) + length (filter q list) ≤ length list)

  meets_by : (s t : Bool) (p q : X → Bool) (x : X) (list : List X) → p x ≡ s → q x ≡ t → Meets p q list
      → Meets p q (x ∷ list)
  meets_by true true p q x list f g more = inl (x, f, g)
  meets_by true false p q x list f g (inl both) = inl both
  meets_by true false p q x list f g (inr few) = inr (rw (f, g) (omega (arith, few)))
  meets_by false true p q x list f g (inl both) = inl both
  meets_by false true p q x list f g (inr few) = inr (rw (f, g) (omega (arith, few)))
  meets_by false false p q x list f g (inl both) = inl both
  meets_by false false p q x list f g (inr few) = inr (rw (f, g) (omega (arith, few)))

  meets : (p q : X → Bool) (list : List X) → Meets p q list
  meets p q [] = inr (omega arith)
  meets p q (x ∷ list) = meets_by _ _ p q x list refl refl (meets p q list)

  pub majorities_meet : (roster : ℕ) (list : List X) (p q : X → Bool) → length list ≤ roster
      → over (count_by p list) roster ≡ true → over (count_by q list) roster ≡ true → HasBoth p q
  majorities_meet roster list p q within f g = by (meets p q list)
    where
      by : Meets p q list → HasBoth p q
      by (inl both) = both
      by (inr few) =
          absurd (omega (arith, within, few, ltb-true _ _ f, ltb-true _ _ g, length-filter p list, length-filter q list))
