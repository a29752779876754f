-- A stable sort gives what one insertion after another gives.
use Rattle.std.proofs.Common.{◌≡◌, ℕ, suc, ◌≤◌, ◌<◌, Bool, true, false, cond, List, [], ◌∷◌, ◌++◌, length, get_or, drop}
use Rattle.std.proofs.{Common.{refl, sym, ap, ◌∙◌, arith, append_assoc}, lemmas.{Bool.true≢false, List.append-nil}}
use Rattle.std.proofs.lemmas.List.{Elements.{All-nil, All-cons, All-head, All-tail}, Sorted.sorted_far}
use Rattle.std.specs.{Prelude.{All, not, ◌&&◌, filter, if◌then◌else◌}, List.{fold, Sorted.{IsSortedBy, IsStableBy}}}
use Rattle.std.specs.{List.Sorted.ties, Cmp.IsStrictWeakOrder}

-- ---- lists with an element that may be left out

module _ {X : Type 0} where
  has_one : (b : Bool) (x : X) (l : List X) → b ≡ true → cond b (x ∷ l) l ≡ [] → ⊥
  has_one true x l is e = cc
  has_one false x l is e = absurd cc

  same_first : (a b : Bool) (x y : X) (l m : List X) → a ≡ true → b ≡ true → cond a (x ∷ l) l ≡ cond b (y ∷ m) m → x ≡ y
  same_first true true x y l m p q e = ap (λ (k : List X). get_or k 0 x) e
  same_first true false x y l m p q e = absurd cc
  same_first false b x y l m p q e = absurd cc

  same_others : (b : Bool) (x : X) (l m : List X) → cond b (x ∷ l) l ≡ cond b (x ∷ m) m → l ≡ m
  same_others true x l m e = ap (λ (k : List X). drop 1 k) e
  same_others false x l m e = e

  alone : (b : Bool) (x : X) (l : List X) → (b ≡ true → l ≡ []) → cond b (x ∷ l) l ≡ l ++ cond b (x ∷ []) []
  alone true x l none = ap (λ (m : List X). x ∷ m) (none refl) ∙ sym (ap (λ (m : List X). m ++ x ∷ []) (none refl))
  alone false x l none = sym (append-nil l)

  later : (b : Bool) (first : X) (l m k : List X) → l ≡ m ++ k → cond b (first ∷ l) l ≡ cond b (first ∷ m) m ++ k
  later true first l m k e = ap (λ (n : List X). first ∷ n) e
  later false first l m k e = e

  in_front : (b : Bool) (x : X) (l : List X) → cond b (x ∷ []) [] ++ l ≡ cond b (x ∷ l) l
  in_front true x l = refl
  in_front false x l = refl

-- ---- insertion

module _ {X : Type 0} (lt : X → X → Bool) where
  -- an element behind all that do not come after it
  abbrev pub inserted : List X → X → List X
  inserted [] x = x ∷ []
  inserted (first ∷ rest) x = if lt x first then x ∷ first ∷ rest else first ∷ inserted rest x

  abbrev NotBefore : X → X → Type 0
  NotBefore x y = lt y x ≡ false

  abbrev Rises : List X → Type 0
  Rises [] = Unit {0}
  Rises (first ∷ rest) = All (NotBefore first) rest × Rises rest

  abbrev Far : List X → Type 0
  Far xs = (i j : ℕ) (d : X) → i ≤ j → j < length xs → lt (get_or xs j d) (get_or xs i d) ≡ false

  rises_far : (xs : List X) → Far xs → Rises xs
  rises_far [] far = tt
  rises_far (first ∷ rest) far = (
    (λ j d in_list. far 0 (suc j) d (omega arith) (omega (arith, in_list))),
    rises_far rest (λ i j d le in_list. far (suc i) (suc j) d (omega (arith, le)) (omega (arith, in_list))),
  )

  tie_back : (z x : X) → ties lt z x ≡ true → lt x z ≡ false
  tie_back z x tie = by (lt z x) (lt x z) refl tie
    where
      by : (a b : Bool) → lt x z ≡ b → (not a && not b) ≡ true → lt x z ≡ false
      by true b is t = absurd cc
      by false true is t = absurd cc
      by false false is t = is

  all_inserted : (P : X → Type 0) (xs : List X) (x : X) → All P xs → P x → All P (inserted xs x)
  all_inserted P [] x all one = All-cons P x [] one (All-nil P)
  all_inserted P (first ∷ rest) x all one = by (lt x first) (all_inserted P rest x (All-tail P first rest all) one)
    where
      by : (b : Bool) → All P (inserted rest x) → All P (if b then x ∷ first ∷ rest else first ∷ inserted rest x)
      by true others = All-cons P x (first ∷ rest) one all
      by false others = All-cons P first (inserted rest x) (All-head P first rest all) others

module _ {X : Type 0} (lt : X → X → Bool) (o : IsStrictWeakOrder lt) where
  itself : (x : X) → lt x x ≡ false
  itself x = by (lt x x) refl
    where
      by : (b : Bool) → lt x x ≡ b → lt x x ≡ false
      by true is = o.one_way x x is
      by false is = is

  ties_itself : (x : X) → ties lt x x ≡ true
  ties_itself x = rw (itself x) refl

  none_before : (x first : X) (rest : List X) → lt first x ≡ false → All (NotBefore lt first) rest → All (NotBefore lt x) rest
  none_before x first [] not_first all = All-nil (NotBefore lt x)
  none_before x first (next ∷ rest) not_first all =
      All-cons (NotBefore lt x) next rest (o.chain next first x (All-head (NotBefore lt first) next rest all) not_first)
      (none_before x first rest not_first (All-tail (NotBefore lt first) next rest all))

  inserted-rises : (xs : List X) (x : X) → Rises lt xs → Rises lt (inserted lt xs x)
  inserted-rises [] x up = (All-nil (NotBefore lt x), tt)
  inserted-rises (first ∷ rest) x up = by (lt x first) refl (inserted-rises rest x up.1)
    where
      by : (b : Bool) → lt x first ≡ b → Rises lt (inserted lt rest x) → Rises lt (if b then x ∷ first ∷ rest else first ∷ inserted lt rest x)
      by true is others =
          let not_first = o.one_way x first is in
          (All-cons (NotBefore lt x) first rest not_first (none_before x first rest not_first up.0), up)
      by false is others = (all_inserted lt (NotBefore lt first) rest x up.0 is, others)

  fold-rises : (before xs : List X) → Rises lt before → Rises lt (fold (inserted lt) before xs)
  fold-rises before [] up = up
  fold-rises before (x ∷ xs) up = fold-rises (inserted lt before x) xs (inserted-rises before x up)

  -- none ties with x of those that do not come before first, which comes after x
  none_ties : (z x first : X) (rest : List X) → ties lt z x ≡ true → lt x first ≡ true → All (NotBefore lt first) rest → filter (ties lt z) rest ≡ []
  none_ties z x first [] tie below all = refl
  none_ties z x first (next ∷ rest) tie below all =
      by (lt z next) refl (none_ties z x first rest tie below (All-tail (NotBefore lt first) next rest all))
    where
      apart : lt z next ≡ false → ⊥
      apart is =
          let not_next = o.chain x z next (tie_back lt z x tie) is in
          true≢false (sym below ∙ o.chain x next first not_next (All-head (NotBefore lt first) next rest all))

      by : (b : Bool) → lt z next ≡ b → filter (ties lt z) rest ≡ [] → filter (ties lt z) (next ∷ rest) ≡ []
      by true is none = rw is none
      by false is none = absurd (apart is)

  none_from : (z x first : X) (rest : List X) → ties lt z x ≡ true → lt x first ≡ true → All (NotBefore lt first) rest
      → filter (ties lt z) (first ∷ rest) ≡ []
  none_from z x first rest tie below all =
      none_ties z x first (first ∷ rest) tie below (All-cons (NotBefore lt first) first rest (itself first) all)

  inserted-ties : (z x : X) (xs : List X) → Rises lt xs
      → filter (ties lt z) (inserted lt xs x) ≡ filter (ties lt z) xs ++ filter (ties lt z) (x ∷ [])
  inserted-ties z x [] up = refl
  inserted-ties z x (first ∷ rest) up = by (lt x first) refl (inserted-ties z x rest up.1)
    where
      by : (b : Bool) → lt x first ≡ b
          → filter (ties lt z) (inserted lt rest x) ≡ filter (ties lt z) rest ++ filter (ties lt z) (x ∷ [])
          → filter (ties lt z) (if b then x ∷ first ∷ rest else first ∷ inserted lt rest x)
          ≡ filter (ties lt z) (first ∷ rest) ++ filter (ties lt z) (x ∷ [])
      by true is others = alone (ties lt z x) x (filter (ties lt z) (first ∷ rest)) (λ tie. none_from z x first rest tie is up.0)
      by false is others = later (ties lt z first) first _ _ _ others

  fold-ties : (z : X) (before xs : List X) → Rises lt before
      → filter (ties lt z) (fold (inserted lt) before xs) ≡ filter (ties lt z) before ++ filter (ties lt z) xs
  fold-ties z before [] up = sym (append-nil (filter (ties lt z) before))
  fold-ties z before (x ∷ xs) up =
      let tied = filter (ties lt z) in
      fold-ties z (inserted lt before x) xs (inserted-rises before x up)
      ∙ ap (λ (l : List X). l ++ filter (ties lt z) xs) (inserted-ties z x before up)
      ∙ append_assoc (filter (ties lt z) before) (filter (ties lt z) (x ∷ [])) (filter (ties lt z) xs)
      ∙ ap (λ (l : List X). filter (ties lt z) before ++ l) (in_front (ties lt z x) x (filter (ties lt z) xs))

  -- ---- two lists that rise and have the same ties are one

  not_below : (x y : X) (xs ys : List X) → Rises lt (y ∷ ys) → filter (ties lt x) (x ∷ xs) ≡ filter (ties lt x) (y ∷ ys) → lt x y ≡ false
  not_below x y xs ys up same = by (lt x y) refl
    where
      by : (b : Bool) → lt x y ≡ b → lt x y ≡ false
      by true is = absurd (has_one (ties lt x x) x (filter (ties lt x) xs) (ties_itself x) (same ∙ none_from x x y ys (ties_itself x) is up.0))
      by false is = is

  tied : (x y : X) → lt x y ≡ false → lt y x ≡ false → ties lt x y ≡ true
  tied x y p q = rw (p, q) refl

  same_lists : (xs ys : List X) → Rises lt xs → Rises lt ys → ((z : X) → filter (ties lt z) xs ≡ filter (ties lt z) ys) → xs ≡ ys
  same_lists [] [] up vp same = refl
  same_lists [] (y ∷ ys) up vp same = absurd (has_one (ties lt y y) y (filter (ties lt y) ys) (ties_itself y) (sym (same y)))
  same_lists (x ∷ xs) [] up vp same = absurd (has_one (ties lt x x) x (filter (ties lt x) xs) (ties_itself x) (same x))
  same_lists (x ∷ xs) (y ∷ ys) up vp same =
      let forth = not_below x y xs ys vp (same x) in
      let back = not_below y x ys xs up (sym (same y)) in
      let one : x ≡ y = same_first (ties lt x x) (ties lt x y) x y _ _ (ties_itself x) (tied x y forth back) (same x) in
      ap (λ (first : X). first ∷ xs) one
      ∙ ap (λ (l : List X). y ∷ l) (same_lists xs ys up.1 vp.1
      (λ z. same_others (ties lt z y) y _ _ (ap (λ (first : X). filter (ties lt z) (first ∷ xs)) (sym one) ∙ same z)))

  -- what a stable sort gives
  pub sorted-inserted : (xs ys : List X) → IsSortedBy lt ys → IsStableBy lt xs ys → ys ≡ fold (inserted lt) [] xs
  sorted-inserted xs ys sorted stable =
      same_lists ys (fold (inserted lt) [] xs) (rises_far lt ys (λ i j d le in_list. sorted_far lt o ys sorted i j d le in_list))
      (fold-rises [] xs tt) (λ z. stable z ∙ sym (fold-ties z [] xs tt))
