-- What is listed first of a relay: the same behind a stable sort by identity, and found by halves.
use Rattle.std.proofs.Common.{◌≡◌, ℕ, zero, suc, ◌<◌, ◌≤◌, Bool, true, false, List, [], ◌∷◌, length, get_or, filter}
use Rattle.std.proofs.Common.{find, Option, Some, None, refl, sym, ap, ap₂, subst, ◌∙◌, arith, ⊎_elim}
use Rattle.std.proofs.lemmas.{Bool.{cases_lt, true≢false, true_from_ne_false}, Cmp.nat_list_cmp_total}
use Rattle.std.{proofs.lemmas.List.{Elements.filter_agree, Sorted.{ranks_by, sorted_far}}, specs.Prelude.AllPairs}
use Rattle.std.specs.{Prelude.{not, ◌&&◌, if◌then◌else◌}, Cmp.{IsStrictWeakOrder, Lexicographic.slice_cmp}}
use Rattle.std.specs.{Ordering.{nat_cmp, is_lt}, List.Sorted.{IsPartitionedBy, IsPartitionPoint, IsSortedBy}}
use Rattle.std.specs.List.Sorted.{IsStableBy, ties}
use Rattle.dir_values.proofs.Orders.{below-trans, below_or_same, same_text, apart, apart_back}
use Rattle.dir_values.specs.Digests.{bytes_below, identity_below, same_identity}
use Rattle.dir_values.specs.declared.digest.Fingerprint.{Fingerprint}
use Rattle.flag_rules.proofs.Ahead.{less_is_lt}

-- two texts tie exactly where they are one
tie_by : (a b : List ℕ) (ab ba : Bool) → bytes_below a b ≡ ab → bytes_below b a ≡ ba
    → (not ab && not ba) ≡ same_identity (record { 0 = b }) (record { 0 = a })
tie_by a b true ba is back = sym (apart_back a b is)
tie_by a b false true is back = sym (apart b a back)
tie_by a b false false is back =
    sym (true_from_ne_false (same_identity (record { 0 = b }) (record { 0 = a })) (λ differ.
    true≢false (sym (below_or_same b a back differ) ∙ is)))

-- what comes before a text comes before one that does not come before that
below_past : (a b c : List ℕ) → bytes_below a b ≡ true → bytes_below c b ≡ false → bytes_below a c ≡ true
below_past a b c ab cb = by (same_identity (record { 0 = c }) (record { 0 = b })) refl
  where
    by : (t : Bool) → same_identity (record { 0 = c }) (record { 0 = b }) ≡ t → bytes_below a c ≡ true
    by true is = subst (λ (x : List ℕ). bytes_below a x ≡ true) (sym (same_text c b is)) ab
    by false is = below-trans a b c ab (below_or_same c b cb is)

module _ {X : Type 0} (identity_of : X → Fingerprint) where
  -- whether one is of the relay with an identity
  abbrev pub is_of : Fingerprint → X → Bool
  is_of identity x = same_identity (identity_of x) identity

  -- whether the identity of one comes before another's
  abbrev pub is_earlier : X → X → Bool
  is_earlier a b = is_lt (slice_cmp nat_cmp (identity_of a).0 (identity_of b).0)

  -- none stands behind one of a greater identity
  abbrev pub AreAscending : List X → Type 0
  AreAscending list = AllPairs (λ earlier later. identity_below (identity_of later) (identity_of earlier) ≡ false) list

  pub weak_order : IsStrictWeakOrder is_earlier
  weak_order = ranks_by nat_list_cmp_total (λ (x : X). (identity_of x).0)

  -- ---- in another order

  before_is : (a b : X) → is_earlier a b ≡ bytes_below (identity_of a).0 (identity_of b).0
  before_is a b = less_is_lt (slice_cmp nat_cmp (identity_of a).0 (identity_of b).0)

  ties_are : (one other : X) → ties is_earlier one other ≡ is_of (identity_of one) other
  ties_are one other =
      ap₂ (λ (x y : Bool). not x && not y) (before_is one other) (before_is other one)
      ∙ tie_by (identity_of one).0 (identity_of other).0 _ _ refl refl

  -- the first of some
  abbrev first : List X → Option X
  first [] = None
  first (x ∷ list) = Some x

  find_is : (p : X → Bool) (list : List X) → find p list ≡ first (filter p list)
  find_is p [] = refl
  find_is p (x ∷ list) = by (p x) (find_is p list)
    where
      by : (t : Bool) → find p list ≡ first (filter p list)
          → (if t then Some x else find p list) ≡ first (if t then x ∷ filter p list else filter p list)
      by true is = refl
      by false is = is

  pub alike : (list sorted : List X) → IsStableBy is_earlier list sorted → (one : X)
      → find (is_of (identity_of one)) sorted ≡ find (is_of (identity_of one)) list
  alike list sorted stable one =
      let p : X → Bool = is_of (identity_of one) in
      find_is p sorted
      ∙ ap first (sym (filter_agree (ties is_earlier one) p (ties_are one) sorted) ∙ stable one
      ∙ filter_agree (ties is_earlier one) p (ties_are one) list)
      ∙ sym (find_is p list)

  pub ascend : (sorted : List X) → IsSortedBy is_earlier sorted → AreAscending sorted
  ascend sorted up i j d lt within =
      sym (before_is (get_or sorted j d) (get_or sorted i d))
      ∙ sorted_far is_earlier weak_order sorted up i j d (omega (arith, lt)) within

  -- ---- by halves

  -- where those below an identity end
  abbrev EndBelow : Fingerprint → List X → ℕ → Type 0
  EndBelow identity list k =
      IsPartitionPoint (λ (x : X). identity_below (identity_of x) identity ≡ true)
      (λ (x : X). identity_below (identity_of x) identity ≡ false) list k

  first_found : (p : X → Bool) (list : List X) (i : ℕ) (d : X) → i < length list
      → ((j : ℕ) → j < i → p (get_or list j d) ≡ false) → p (get_or list i d) ≡ true
      → find p list ≡ Some (get_or list i d)
  first_found p [] i d within before its = absurd (omega arith)
  first_found p (x ∷ list) zero d within before its = ap (λ (t : Bool). if t then Some x else find p list) its
  first_found p (x ∷ list) (suc i) d within before its =
      ap (λ (t : Bool). if t then Some x else find p list) (before zero (omega arith))
      ∙ first_found p list i d (omega arith) (λ j lt. before (suc j) (omega arith)) its

  none_found : (p : X → Bool) (list : List X) (d : X) → ((j : ℕ) → j < length list → p (get_or list j d) ≡ false)
      → find p list ≡ None
  none_found p [] d none = refl
  none_found p (x ∷ list) d none =
      ap (λ (t : Bool). if t then Some x else find p list) (none zero (omega arith))
      ∙ none_found p list d (λ j lt. none (suc j) (omega arith))

  -- those that ascend are parted by whether they are below an identity
  pub parted : (list : List X) (identity : Fingerprint) → AreAscending list
      → IsPartitionedBy (λ (x : X). identity_below (identity_of x) identity) list
  parted list identity up i j d le lt later =
      ⊎_elim
      (λ before. by (bytes_below (identity_of (get_or list i d)).0 identity.0) refl before)
      (λ from.
      let one : i ≡ j = omega (arith, le, from) in
      subst (λ (n : ℕ). identity_below (identity_of (get_or list n d)) identity ≡ true) (sym one) later) (cases_lt i j)
    where
      by : (t : Bool) → bytes_below (identity_of (get_or list i d)).0 identity.0 ≡ t → i < j
          → identity_below (identity_of (get_or list i d)) identity ≡ true
      by true is before = is
      by false is before =
          let past =
          below_past (identity_of (get_or list j d)).0 identity.0 (identity_of (get_or list i d)).0 later is in
          absurd (true≢false (sym past ∙ up i j d before lt))

  -- the one behind those below an identity is of it, or none is
  pub found_for : (list : List X) (identity : Fingerprint) (k : ℕ) (d : X) → k < length list
      → EndBelow identity list k → is_of identity (get_or list k d) ≡ true
      → find (is_of identity) list ≡ Some (get_or list k d)
  found_for list identity k d lt point its =
      first_found (is_of identity) list k d lt (λ j before.
      apart (identity_of (get_or list j d)).0 identity.0 (point.0 j d (omega arith) before)) its

  pub not_found : (list : List X) (identity : Fingerprint) (k : ℕ) (d : X) → AreAscending list → k < length list
      → EndBelow identity list k → is_of identity (get_or list k d) ≡ false → find (is_of identity) list ≡ None
  not_found list identity k d up lt point other =
      let past = get_or list k d in
      let above : bytes_below identity.0 (identity_of past).0 ≡ true =
      below_or_same (identity_of past).0 identity.0 (point.1 k d (omega arith) lt) other in
      none_found (is_of identity) list d (λ j within.
      ⊎_elim (λ before. apart (identity_of (get_or list j d)).0 identity.0 (point.0 j d (omega arith) before))
      (λ from.
      ⊎_elim (λ behind.
      apart_back identity.0 (identity_of (get_or list j d)).0
      (below_past identity.0 (identity_of past).0 (identity_of (get_or list j d)).0 above (up k j d behind within)))
      (λ upto.
      let one : j ≡ k = omega (arith, from, upto) in
      subst (λ (n : ℕ). is_of identity (get_or list n d) ≡ false) (sym one) other) (cases_lt k j))
      (cases_lt j k))

  pub none_behind : (list : List X) (identity : Fingerprint) (k : ℕ) (d : X) → length list ≤ k
      → EndBelow identity list k → find (is_of identity) list ≡ None
  none_behind list identity k d past point =
      none_found (is_of identity) list d (λ j within.
      apart (identity_of (get_or list j d)).0 identity.0 (point.0 j d (omega arith) (omega (arith, past, within))))
