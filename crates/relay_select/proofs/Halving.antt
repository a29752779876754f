-- Halving the entries of a vote, which ascend.
use Rattle.std.proofs.Common.{◌≡◌, ℕ, zero, suc, ◌+◌, ◌-◌, ◌<◌, ◌≤◌, ◌⊎◌, true, false, List, [], ◌∷◌, Some, None}
use Rattle.std.proofs.Common.{length, get_or, drop, refl, sym, ap, ◌∙◌, subst, ⊎_elim, add-one, drop-cons, arith}
use Rattle.std.proofs.lemmas.Bool.{cases_lt}
use Rattle.dir_values.specs.{declared.digest.Fingerprint.Fingerprint, Digests.{identity_below, same_identity}}
use Rattle.dir_values.proofs.Orders.{below-trans, below_or_same, same_text}
use Rattle.vote_terms.specs.{declared.entry.EntryFacts.EntryFacts, Entries.Ascending}
use Rattle.relay_select.{specs.Walks.place_from, proofs.AscendingEntries.{Below, Above, above_first, ascending_tail}}
use Rattle.relay_select.proofs.AscendingEntries.{apart, apart_back}

above_at : (b : List ℕ) (es : List EntryFacts) (k : ℕ) (d : EntryFacts) → Above b es → k < length es → Below b (get_or es k d).identity.0
above_at b [] k d a lt = absurd (omega (arith, lt))
above_at b (e ∷ es) zero d a lt = a.0
above_at b (e ∷ es) (suc k) d a lt = above_at b es k d a.1 (omega (arith, lt))

-- of two entries the later comes behind
in_order : (es : List EntryFacts) (i k : ℕ) (d : EntryFacts) → Ascending es → i < k → k < length es → Below (get_or es i d).identity.0 (get_or es k d).identity.0
in_order [] i k d up lt in_list = absurd (omega (arith, in_list))
in_order (e ∷ es) zero zero d up lt in_list = absurd (omega (arith, lt))
in_order (e ∷ es) zero (suc k) d up lt in_list = above_at e.identity.0 es k d (above_first e es up) (omega (arith, in_list))
in_order (e ∷ es) (suc i) zero d up lt in_list = absurd (omega (arith, lt))
in_order (e ∷ es) (suc i) (suc k) d up lt in_list = in_order es i k d (ascending_tail e es up) (omega (arith, lt)) (omega (arith, in_list))

one_step : (es : List EntryFacts) (a : ℕ) (rsa : Fingerprint) (d : EntryFacts) → a < length es → same_identity (get_or es a d).identity rsa ≡ false → place_from a (drop a es) rsa ≡ place_from (a + 1) (drop (a + 1) es) rsa
one_step es a rsa d lt other =
    let split : drop a es ≡ get_or es a d ∷ drop (a + 1) es = rw add-one (drop-cons es a d lt) in
    ap (λ (l : List EntryFacts). place_from a l rsa) split ∙ rw other refl

-- entries of other identities are passed over
skip : (n : ℕ) (es : List EntryFacts) (a : ℕ) (rsa : Fingerprint) (d : EntryFacts) → a + n ≤ length es → ((k : ℕ) → a ≤ k → k < a + n → same_identity (get_or es k d).identity rsa ≡ false)
    → place_from a (drop a es) rsa ≡ place_from (a + n) (drop (a + n) es) rsa
skip zero es a rsa d le other = ap (λ (k : ℕ). place_from k (drop k es) rsa) (omega arith)
skip (suc n) es a rsa d le other =
    one_step es a rsa d (omega (arith, le)) (other a (omega arith) (omega arith))
    ∙ skip n es (a + 1) rsa d (omega (arith, le)) (λ k low high. other k (omega (arith, low)) (omega (arith, high)))
    ∙ ap (λ (k : ℕ). place_from k (drop k es) rsa) (omega arith)

pub over_to : (es : List EntryFacts) (a b : ℕ) (rsa : Fingerprint) (d : EntryFacts) → a ≤ b → b ≤ length es → ((k : ℕ) → a ≤ k → k < b → same_identity (get_or es k d).identity rsa ≡ false)
    → place_from a (drop a es) rsa ≡ place_from b (drop b es) rsa
over_to es a b rsa d le within other =
    let e : a + (b - a) ≡ b = omega (arith, le) in
    skip (b - a) es a rsa d (omega (arith, e, within)) (λ k low high. other k low (omega (arith, e, high))) ∙ ap (λ (k : ℕ). place_from k (drop k es) rsa) e

-- the entry in the middle has the identity
pub hit : (es : List EntryFacts) (low middle : ℕ) (rsa : Fingerprint) (d : EntryFacts) → Ascending es → low ≤ middle → middle < length es → same_identity (get_or es middle d).identity rsa ≡ true
    → place_from low (drop low es) rsa ≡ Some middle
hit es low middle rsa d up le lt same =
    over_to es low middle rsa d le (omega (arith, lt)) (λ k a b. apart (get_or es k d).identity.0 rsa.0 (subst (λ (t : List ℕ). Below (get_or es k d).identity.0 t) (same_text (get_or es middle d).identity.0 rsa.0 same) (in_order es k middle d up b lt)))
    ∙ ap (λ (l : List EntryFacts). place_from middle l rsa) (drop-cons es middle d lt) ∙ rw same refl

-- the entry in the middle comes before it
pub go_up : (es : List EntryFacts) (low middle : ℕ) (rsa : Fingerprint) (d : EntryFacts) → Ascending es → low ≤ middle → middle < length es → identity_below (get_or es middle d).identity rsa ≡ true
    → place_from (middle + 1) (drop (middle + 1) es) rsa ≡ place_from low (drop low es) rsa
go_up es low middle rsa d up le lt below =
    sym (over_to es low (middle + 1) rsa d (omega (arith, le)) (omega (arith, lt)) (λ k a b.
    ⊎_elim
    (λ (l : k < middle). apart (get_or es k d).identity.0 rsa.0 (below-trans (get_or es k d).identity.0 (get_or es middle d).identity.0 rsa.0 (in_order es k middle d up l lt) below))
    (λ (g : middle ≤ k). let e : k ≡ middle = omega (arith, b, g) in ap (λ (n : ℕ). same_identity (get_or es n d).identity rsa) e ∙ apart (get_or es middle d).identity.0 rsa.0 below)
    (cases_lt k middle)))

-- the entry in the middle comes behind it
pub go_down : (es : List EntryFacts) (middle high : ℕ) (rsa : Fingerprint) (d : EntryFacts) → Ascending es → middle < high → high ≤ length es → same_identity (get_or es middle d).identity rsa ≡ false → identity_below (get_or es middle d).identity rsa ≡ false
    → place_from high (drop high es) rsa ≡ None → place_from middle (drop middle es) rsa ≡ None
go_down es middle high rsa d up lt within other low none =
    let behind : Below rsa.0 (get_or es middle d).identity.0 = below_or_same (get_or es middle d).identity.0 rsa.0 low other in
    over_to es middle high rsa d (omega (arith, lt)) within (λ k a b.
    ⊎_elim
    (λ (l : middle < k). apart_back rsa.0 (get_or es k d).identity.0 (below-trans rsa.0 (get_or es middle d).identity.0 (get_or es k d).identity.0 behind (in_order es middle k d up l (omega (arith, b, within)))))
    (λ (g : k ≤ middle). let e : k ≡ middle = omega (arith, a, g) in ap (λ (n : ℕ). same_identity (get_or es n d).identity rsa) e ∙ other)
    (cases_lt middle k)) ∙ none

-- past the last entry there is none
pub past_end : (es : List EntryFacts) (rsa : Fingerprint) (n : ℕ) → length es ≤ n → place_from n (drop n es) rsa ≡ None
past_end [] rsa zero le = refl
past_end [] rsa (suc n) le = refl
past_end (e ∷ es) rsa zero le = absurd (omega (arith, le))
past_end (e ∷ es) rsa (suc n) le = nothing (drop n es) (empty es n (omega (arith, le)))
  where
    empty : (xs : List EntryFacts) (k : ℕ) → length xs ≤ k → drop k xs ≡ []
    empty [] zero h = refl
    empty [] (suc k) h = refl
    empty (x ∷ xs) zero h = absurd (omega (arith, h))
    empty (x ∷ xs) (suc k) h = empty xs k (omega (arith, h))

    nothing : (xs : List EntryFacts) → xs ≡ [] → place_from (suc n) xs rsa ≡ None
    nothing xs h = rw h refl
