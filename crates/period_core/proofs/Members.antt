-- What is of members of a roster, each once: there are no more than the roster has members.
use Rattle.std.proofs.Common.{◌≡◌, ◌+◌, ◌<◌, ◌≤◌, Bool, true, false, ◌||◌, List, [], ◌∷◌, ◌++◌, length, refl, sym, ◌∙◌}
use Rattle.std.{proofs.{Common.{subst, arith, cond}, lemmas.Bool.false≢true}, specs.List.{list_any, filter}}
use Rattle.std.specs.Prelude.{not}
use Rattle.dir_values.specs.{declared.digest.Fingerprint.Fingerprint, Digests.same_identity, Rosters.has_member}
use Rattle.vote_terms.proofs.Orders.{same_one}
use Rattle.period_core.specs.Standing.{AreOf}

left_false : (a b : Bool) → (a || b) ≡ false → a ≡ false
left_false true b h = h
left_false false b h = refl

right_false : (a b : Bool) → (a || b) ≡ false → b ≡ false
right_false true b h = absurd (false≢true (sym h))
right_false false b h = h

both_false : (a b : Bool) → a ≡ false → b ≡ false → (a || b) ≡ false
both_false a b h k = rw (h, k) refl

-- the members without the first that is this one
abbrev without : Fingerprint → List Fingerprint → List Fingerprint
without x [] = []
without x (y ∷ ys) = cond (same_identity y x) ys (y ∷ without x ys)

len_by : (b : Bool) (x y : Fingerprint) (ys : List Fingerprint) → (b || has_member ys x) ≡ true
    → (has_member ys x ≡ true → length ys ≡ length (without x ys) + 1)
    → length (y ∷ ys) ≡ length (cond b ys (y ∷ without x ys)) + 1
len_by true x y ys h ih = omega arith
len_by false x y ys h ih = omega (arith, ih h)

without_length : (x : Fingerprint) (ys : List Fingerprint) → has_member ys x ≡ true → length ys ≡ length
    (without x ys) + 1
without_length x [] h = absurd (false≢true h)
without_length x (y ∷ ys) h = len_by (same_identity y x) x y ys h (without_length x ys)

has_by : (b c : Bool) (x z y : Fingerprint) (ys : List Fingerprint) → same_identity y x ≡ b → same_identity y z ≡ c
    → same_identity x z ≡ false
    → (c || has_member ys z) ≡ true → (has_member ys z ≡ true → has_member (without x ys) z ≡ true)
    → has_member (cond b ys (y ∷ without x ys)) z ≡ true
has_by true true x z y ys e f n h ih =
    absurd (false≢true (sym n ∙ subst (λ (m : Fingerprint). same_identity m z ≡ true) (same_one y x e) f))
has_by true false x z y ys e f n h ih = h
has_by false true x z y ys e f n h ih = rw f refl
has_by false false x z y ys e f n h ih = rw f (ih h)

has_without : (x z : Fingerprint) (ys : List Fingerprint) → same_identity x z ≡ false → has_member ys z ≡ true
    → has_member (without x ys) z ≡ true
has_without x z [] n h = h
has_without x z (y ∷ ys) n h = has_by (same_identity y x) (same_identity y z) x z y ys refl refl n h
    (has_without x z ys n)

still : {X : Type 0} (of : X → Fingerprint) (roster : List Fingerprint) (x : Fingerprint) (ys : List X)
    → list_any (λ other. same_identity x (of other)) ys ≡ false → AreOf of roster ys → AreOf of (without x roster) ys
still of roster x [] n a = tt
still of roster x (y ∷ ys) n a = (
  has_without x (of y) roster (left_false (same_identity x (of y)) (list_any (λ other. same_identity x (of other))
      ys) n) a.0,
  a.1,
  still of roster x ys (right_false (same_identity x (of y)) (list_any (λ other. same_identity x (of other)) ys) n)
      a.2,
)

-- there are no more than members
pub few : {X : Type 0} (of : X → Fingerprint) (roster : List Fingerprint) (xs : List X) → AreOf of roster xs
    → length xs ≤ length roster
few of roster [] a = omega arith
few of roster (x ∷ xs) a =
    omega (
      arith,
      without_length (of x) roster a.0,
      few of (without (of x) roster) xs (still of roster (of x) xs a.1
          a.2),
    )

-- ---- one more

none_more : {X : Type 0} (p : X → Bool) (xs : List X) (x : X) → list_any p xs ≡ false → p x ≡ false
    → list_any p (xs ++ x ∷ []) ≡ false
none_more p [] x h k = both_false (p x) false k refl
none_more p (y ∷ ys) x h k = both_false (p y) (list_any p (ys ++ x ∷ [])) (left_false (p y) (list_any p ys) h)
    (none_more p ys x (right_false (p y) (list_any p ys) h) k)

-- one more, of a member of whom there is none
pub are_more : {X : Type 0} (of : X → Fingerprint) (roster : List Fingerprint) (xs : List X) (x : X)
    → AreOf of roster xs → has_member roster (of x) ≡ true
    → list_any (λ other. same_identity (of other) (of x)) xs ≡ false → AreOf of roster (xs ++ x ∷ [])
are_more of roster [] x a m n = (m, refl, tt)
are_more of roster (y ∷ ys) x a m n = (
  a.0,
  none_more (λ other. same_identity (of y) (of other)) ys x a.1 (left_false (same_identity (of y) (of x))
      (list_any (λ other. same_identity (of other) (of x)) ys) n),
  are_more of roster ys x a.2 m (right_false (same_identity (of y) (of x))
      (list_any (λ other. same_identity (of other) (of x)) ys) n),
)

-- ---- those that are left

none_by : {X : Type 0} (b : Bool) (p q : X → Bool) (y : X) (ys : List X) → q y ≡ false → list_any q (filter p ys) ≡
    false → list_any q (cond b (y ∷ filter p ys) (filter p ys)) ≡ false
none_by true p q y ys h k = both_false (q y) (list_any q (filter p ys)) h k
none_by false p q y ys h k = k

none_left : {X : Type 0} (p q : X → Bool) (xs : List X) → list_any q xs ≡ false → list_any q (filter p xs) ≡ false
none_left p q [] h = refl
none_left p q (y ∷ ys) h = none_by (p y) p q y ys (left_false (q y) (list_any q ys) h)
    (none_left p q ys (right_false (q y) (list_any q ys) h))

left_by : {X : Type 0} (b : Bool) (of : X → Fingerprint) (roster : List Fingerprint) (p : X → Bool) (y : X)
    (ys : List X) → AreOf of roster (y ∷ filter p ys)
    → AreOf of roster (cond b (y ∷ filter p ys) (filter p ys))
left_by true of roster p y ys a = a
left_by false of roster p y ys a = a.2

-- those that a test leaves are so too
pub are_left : {X : Type 0} (of : X → Fingerprint) (roster : List Fingerprint) (p : X → Bool) (xs : List X)
    → AreOf of roster xs → AreOf of roster (filter p xs)
are_left of roster p [] a = tt
are_left of roster p (y ∷ ys) a =
    left_by (p y) of roster p y ys (
      a.0,
      none_left p (λ other. same_identity (of y) (of other)) ys a.1,
      are_left of
          roster p ys a.2,
    )

-- ---- those of others

other_by : (b : Bool) (a c : Fingerprint) → same_identity c a ≡ b → same_identity a c ≡ false → same_identity c a ≡
    false
other_by true a c e n =
    let q = same_one c a e in
    absurd (false≢true (sym n ∙ subst (λ (x : Fingerprint). same_identity a x ≡ true) (sym q)
    (subst (λ (x : Fingerprint). same_identity x a ≡ true) q e)))
other_by false a c e n = e

other_way_round : (a c : Fingerprint) → same_identity a c ≡ false → same_identity c a ≡ false
other_way_round a c n = other_by (same_identity c a) a c refl n

gone_by : {X : Type 0} (b : Bool) (of : X → Fingerprint) (x : Fingerprint) (y : X) (ys : List X)
    → same_identity (of y) x ≡ b
    → list_any (λ other. same_identity (of other) x) (filter (λ other. not (same_identity (of other) x)) ys) ≡ false
    → list_any (λ other. same_identity (of other) x)
    (cond (not b) (y ∷ filter (λ other. not (same_identity (of other) x)) ys)
    (filter (λ other. not (same_identity (of other) x)) ys)) ≡ false
gone_by true of x y ys e h = h
gone_by false of x y ys e h = both_false (same_identity (of y) x) (list_any (λ other. same_identity (of other) x)
    (filter (λ other. not (same_identity (of other) x)) ys)) e h

-- none of those that are of others is of this one
pub none_of_it : {X : Type 0} (of : X → Fingerprint) (x : Fingerprint) (xs : List X)
    → list_any (λ other. same_identity (of other) x) (filter (λ other. not (same_identity (of other) x)) xs) ≡ false
none_of_it of x [] = refl
none_of_it of x (y ∷ ys) = gone_by (same_identity (of y) x) of x y ys refl (none_of_it of x ys)

all_by : {X : Type 0} (b : Bool) (of : X → Fingerprint) (x : Fingerprint) (y : X) (ys : List X) → b ≡ false
    → length (filter (λ other. not (same_identity (of other) x)) ys) ≡ length ys
    → length (cond (not b) (y ∷ filter (λ other. not (same_identity (of other) x)) ys)
    (filter (λ other. not (same_identity (of other) x)) ys)) ≡ length (y ∷ ys)
all_by true of x y ys e h = absurd (false≢true (sym e))
all_by false of x y ys e h = omega (arith, h)

all_others : {X : Type 0} (of : X → Fingerprint) (a x : Fingerprint) (ys : List X) → a ≡ x
    → list_any (λ other. same_identity a (of other)) ys ≡ false
    → length (filter (λ other. not (same_identity (of other) x)) ys) ≡ length ys
all_others of a x [] q n = refl
all_others of a x (y ∷ ys) q n =
    let l = left_false (same_identity a (of y)) (list_any (λ other. same_identity a (of other)) ys) n in
    let k : same_identity (of y) x ≡ false = subst (λ (m : Fingerprint). same_identity (of y) m ≡ false) q
    (other_way_round a (of y) l) in
    all_by (same_identity (of y) x) of x y ys k (all_others of a x ys q (right_false (same_identity a (of y))
    (list_any (λ other. same_identity a (of other)) ys) n))

fewer_by : {X : Type 0} (b : Bool) (of : X → Fingerprint) (x : Fingerprint) (y : X) (ys : List X)
    → same_identity (of y) x ≡ b
    → list_any (λ other. same_identity (of y) (of other)) ys ≡ false
    → length ys ≤ length (filter (λ other. not (same_identity (of other) x)) ys) + 1
    → length (y ∷ ys) ≤ length (cond (not b) (y ∷ filter (λ other. not (same_identity (of other) x)) ys)
    (filter (λ other. not (same_identity (of other) x)) ys)) + 1
fewer_by true of x y ys e n h = omega (arith, all_others of (of y) x ys (same_one (of y) x e) n)
fewer_by false of x y ys e n h = omega (arith, h)

-- at most one is of this one
pub one_fewer : {X : Type 0} (of : X → Fingerprint) (roster : List Fingerprint) (x : Fingerprint) (xs : List X)
    → AreOf of roster xs
    → length xs ≤ length (filter (λ other. not (same_identity (of other) x)) xs) + 1
one_fewer of roster x [] a = omega arith
one_fewer of roster x (y ∷ ys) a = fewer_by (same_identity (of y) x) of x y ys refl a.1 (one_fewer of roster x ys a.2)
