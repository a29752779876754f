-- Texts and entries that ascend.
use Rattle.std.proofs.Common.{◌≡◌, ℕ, zero, suc, ◌+◌, ◌<◌, ◌≤◌, ◌⊎◌, Bool, true, false, ◌||◌, List, [], ◌∷◌, None, drop}
use Rattle.std.proofs.{Common.{refl, sym, ap, ◌∙◌, subst, inl, inr, ⊎_elim, arith}, lemmas.Cmp.nat_list_cmp_total}
use Rattle.std.{proofs.lemmas.{Cmp.tied_itself, Bool.false≢true, List.Elements.{All-nil, All-cons}}, specs.Prelude.All}
use Rattle.std.specs.{Str.bytes_eq, Cmp.Lexicographic.bytes_decides}
use Rattle.dir_values.specs.{declared.digest.Fingerprint.Fingerprint, Digests.{is_less, bytes_below, identity_below}}
use Rattle.dir_values.{specs.FlagSets.{has_flag, Ascend}, proofs.Orders.{below-trans, below_or_same, same_text}}
use Rattle.dir_values.proofs.Orders.{AllPairs-head, AllPairs-tail}
use Rattle.vote_terms.specs.{declared.entry.EntryFacts.EntryFacts, Entries.Ascending}
use Rattle.compute_terms.specs.Listings.{identities_of}
use Rattle.relay_select.specs.Walks.{place_from}

-- ---- texts

-- one text comes before another
abbrev pub Below : List ℕ → List ℕ → Type 0
Below a b = bytes_below a b ≡ true

not_itself : (a : List ℕ) → Below a a → ⊥
not_itself a h = false≢true (sym (ap is_less (tied_itself nat_list_cmp_total a)) ∙ h)

pub itself : (a : List ℕ) → bytes_eq a a ≡ true
itself a = (bytes_decides a a).1 refl

apart_by : (b : Bool) (x y : List ℕ) → bytes_eq x y ≡ b → Below x y → bytes_eq x y ≡ false
apart_by true x y e h = absurd (not_itself y (subst (λ (t : List ℕ). Below t y) (same_text x y e) h))
apart_by false x y e h = e

pub apart : (x y : List ℕ) → Below x y → bytes_eq x y ≡ false
apart x y h = apart_by _ x y refl h

apart_back_by : (b : Bool) (x y : List ℕ) → bytes_eq y x ≡ b → Below x y → bytes_eq y x ≡ false
apart_back_by true x y e h = absurd (not_itself x (subst (λ (t : List ℕ). Below x t) (same_text y x e) h))
apart_back_by false x y e h = e

pub apart_back : (x y : List ℕ) → Below x y → bytes_eq y x ≡ false
apart_back x y h = apart_back_by _ x y refl h

pub or_cases : (a b : Bool) → (a || b) ≡ true → (a ≡ true) ⊎ (b ≡ true)
or_cases true b h = inl refl
or_cases false b h = inr h

-- what holds of each member of a set holds of all
pub all_from : (P : List ℕ → Type 0) (xs : List (List ℕ)) → ((t : List ℕ) → has_flag xs t ≡ true → P t) → All P xs
all_from P [] each = All-nil P
all_from P (x ∷ xs) each =
    All-cons P x xs (each x (rw (itself x) refl)) (all_from P xs (λ t h. each t (later (bytes_eq x t) (has_flag xs t) h)))
  where
    later : (a b : Bool) → b ≡ true → (a || b) ≡ true
    later true b h = refl
    later false b h = h

all_has : (b : List ℕ) (xs : List (List ℕ)) (t : List ℕ) → All (Below b) xs → has_flag xs t ≡ true → Below b t
all_has b [] t all h = absurd (false≢true h)
all_has b (x ∷ xs) t all h =
    ⊎_elim (λ (e : bytes_eq x t ≡ true). subst (λ (s : List ℕ). Below b s) (same_text x t e) (head all)) (λ e. all_has b xs t (tail all) e) (or_cases (bytes_eq x t) (has_flag xs t) h)
  where
    head : All (Below b) (x ∷ xs) → Below b x
    head all = all zero x (omega arith)

    tail : All (Below b) (x ∷ xs) → All (Below b) xs
    tail all = λ k d lt. all (suc k) d (omega (arith, lt))

-- two ascending lists with the same members are one
same_set_by : (b e : Bool) (x y : List ℕ) (xs ys : List (List ℕ)) → bytes_below x y ≡ b → bytes_eq x y ≡ e → Ascend (x ∷ xs) → Ascend (y ∷ ys)
    → ((t : List ℕ) → has_flag (x ∷ xs) t ≡ has_flag (y ∷ ys) t)
    → (((t : List ℕ) → has_flag xs t ≡ has_flag ys t) → xs ≡ ys) → x ∷ xs ≡ y ∷ ys
same_set_by true e x y xs ys below equal up vp same more =
    absurd (⊎_elim
    (λ (h : bytes_eq y x ≡ true). false≢true (sym (apart_back x y below) ∙ h))
    (λ h. not_itself x (below-trans x y x below (all_has y ys x (AllPairs-head Below y ys vp) h)))
    (or_cases (bytes_eq y x) (has_flag ys x) (sym (same x) ∙ rw (itself x) refl)))
same_set_by false true x y xs ys below equal up vp same more =
    let one : x ≡ y = same_text x y equal in
    let tails : (t : List ℕ) → has_flag xs t ≡ has_flag ys t = λ t. rest_by _ t refl in
    rw (one, more tails) refl
  where
    swap : (t : List ℕ) → bytes_eq x t ≡ bytes_eq y t
    swap t = ap (λ (s : List ℕ). bytes_eq s t) (same_text x y equal)

    none : (z : List ℕ) (zs : List (List ℕ)) (t : List ℕ) → Ascend (z ∷ zs) → bytes_eq z t ≡ true → (b : Bool) → has_flag zs t ≡ b → has_flag zs t ≡ false
    none z zs t zp is true h = absurd (not_itself z (subst (λ (s : List ℕ). Below z s) (sym (same_text z t is)) (all_has z zs t (AllPairs-head Below z zs zp) h)))
    none z zs t zp is false h = h

    rest_by : (b : Bool) (t : List ℕ) → bytes_eq x t ≡ b → has_flag xs t ≡ has_flag ys t
    rest_by true t is = none x xs t up is _ refl ∙ sym (none y ys t vp (sym (swap t) ∙ is) _ refl)
    rest_by false t is = let other : bytes_eq y t ≡ false = sym (swap t) ∙ is in let s : (bytes_eq x t || has_flag xs t) ≡ (bytes_eq y t || has_flag ys t) = same t in rw (is, other) at s
same_set_by false false x y xs ys below equal up vp same more =
    let back : Below y x = below_or_same x y below equal in
    absurd (⊎_elim
    (λ (h : bytes_eq x y ≡ true). false≢true (sym equal ∙ h))
    (λ h. not_itself y (below-trans y x y back (all_has x xs y (AllPairs-head Below x xs up) h)))
    (or_cases (bytes_eq x y) (has_flag xs y) (same y ∙ rw (itself y) refl)))

pub same_set : (xs ys : List (List ℕ)) → Ascend xs → Ascend ys → ((t : List ℕ) → has_flag xs t ≡ has_flag ys t) → xs ≡ ys
same_set [] [] up vp same = refl
same_set [] (y ∷ ys) up vp same = absurd (false≢true (same y ∙ rw (itself y) refl))
same_set (x ∷ xs) [] up vp same = absurd (false≢true (sym (same x) ∙ rw (itself x) refl))
same_set (x ∷ xs) (y ∷ ys) up vp same =
    same_set_by _ _ x y xs ys refl refl up vp same (λ tails. same_set xs ys (AllPairs-tail Below x xs up) (AllPairs-tail Below y ys vp) tails)

-- ---- entries that ascend

-- each identity comes behind a text
abbrev pub Above : List ℕ → List EntryFacts → Type 0
Above b [] = Unit {0}
Above b (e ∷ es) = Below b e.identity.0 × Above b es

pub weaker : (a b : List ℕ) (es : List EntryFacts) → Below a b → Above b es → Above a es
weaker a b [] h above = tt
weaker a b (e ∷ es) h above = (below-trans a b e.identity.0 h above.0, weaker a b es h above.1)

-- the entries behind the first of ascending ones come behind it
pub above_first : (e : EntryFacts) (es : List EntryFacts) → Ascending (e ∷ es) → Above e.identity.0 es
above_first e es up = above_by e.identity.0 es (AllPairs-head (λ (a b : EntryFacts). identity_below a.identity b.identity ≡ true) e es up)
  where
    above_by : (b : List ℕ) (xs : List EntryFacts) → All (λ (x : EntryFacts). Below b x.identity.0) xs → Above b xs
    above_by b [] all = tt
    above_by b (x ∷ xs) all = (all zero x (omega arith), above_by b xs (λ k d lt. all (suc k) d (omega (arith, lt))))

-- and ascend
pub ascending_tail : (e : EntryFacts) (es : List EntryFacts) → Ascending (e ∷ es) → Ascending es
ascending_tail e es up = AllPairs-tail (λ (a b : EntryFacts). identity_below a.identity b.identity ≡ true) e es up

pub ascending-drop : (n : ℕ) (es : List EntryFacts) → Ascending es → Ascending (drop n es)
ascending-drop zero es up = up
ascending-drop (suc n) [] up = up
ascending-drop (suc n) (e ∷ es) up = ascending-drop n es (ascending_tail e es up)

pub above_has : (b : List ℕ) (es : List EntryFacts) (t : List ℕ) → Above b es → has_flag (identities_of es) t ≡ true → Below b t
above_has b [] t above h = absurd (false≢true h)
above_has b (e ∷ es) t above h =
    ⊎_elim (λ (is : bytes_eq e.identity.0 t ≡ true). subst (λ (s : List ℕ). Below b s) (same_text e.identity.0 t is) above.0) (λ is. above_has b es t above.1 is) (or_cases (bytes_eq e.identity.0 t) (has_flag (identities_of es) t) h)

pub no_place : (rsa : Fingerprint) (es : List EntryFacts) (place : ℕ) → Above rsa.0 es → place_from place es rsa ≡ None
no_place rsa [] place above = refl
no_place rsa (e ∷ es) place above = rw (apart_back rsa.0 e.identity.0 above.0) (no_place rsa es (place + 1) above.1)
