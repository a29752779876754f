-- The value that leads of all is the chosen one.
use Rattle.std.proofs.Common.{◌≡◌, ℕ, ◌<◌, ◌⊎◌, Bool, true, false, not, ◌&&◌, ltb, eqb, List, [], ◌∷◌, Option, Some}
use Rattle.std.proofs.{Common.{None, refl, sym, ap, ◌∙◌, inl, inr, ⊎_elim, arith}, lemmas.Option.same_Some}
use Rattle.std.proofs.lemmas.{Option.{slice_get_read, slice_get_cases}, List.{take_more, Sums.fold-append}}
use Rattle.std.{proofs.lemmas.{Cmp.tied_itself, Bool.{false≢true, Decides.nat_tests}}, specs.Prelude.{length, take}}
use Rattle.std.specs.{Prelude.{◌+◌, ◌++◌, get_or, slice_get, option_and_then, if◌then◌else◌}, List.{find, fold}}
use Rattle.std.specs.{List.list_all, declared.cmp.Ordering.{Ordering, TheVariants.{Less, Equal, Greater}}}
use Rattle.std.specs.{Cmp.IsTotalOrder, Ordering.{is_gt, ordering_reverse}}
use Rattle.count_terms.specs.Choosing.{times, outdoes, chosen}
use Rattle.field_votes.specs.Leading.{after, leader}

-- ---- by a test that says which of two values wins

first_true : (a b : Bool) → (a && b) ≡ true → a ≡ true
first_true true b h = refl
first_true false b h = h

last_true : (a b : Bool) → (a && b) ≡ true → b ≡ true
last_true true b h = h
last_true false b h = absurd (false≢true h)

module _ {A : Type 0} where
  -- x is one of the values
  abbrev In : A → List A → Type 0
  In x [] = ⊥
  In x (y ∷ ys) = (x ≡ y) ⊎ In x ys

  all_in : (p : A → Bool) (xs : List A) (x : A) → list_all p xs ≡ true → In x xs → p x ≡ true
  all_in p [] x h i = absurd i
  all_in p (y ∷ ys) x h i = ⊎_elim (λ (e : x ≡ y). ap p e ∙ first_true (p y) (list_all p ys) h) (λ t. all_in p ys x (last_true (p y) (list_all p ys) h) t) i

  -- the only member that passes is what is found
  found_by : (b : Bool) (p : A → Bool) (y : A) (ys : List A) (r : A) → p y ≡ b → In r (y ∷ ys) → p r ≡ true
      → ((x : A) → In x (y ∷ ys) → p x ≡ true → x ≡ r) → (In r ys → find p ys ≡ Some r) → find p (y ∷ ys) ≡ Some r
  found_by true p y ys r e i h only more = rw e (ap (λ (x : A). Some x) (only y (inl refl) e))
  found_by false p y ys r e i h only more =
      rw e (⊎_elim (λ (q : r ≡ y). absurd (false≢true (sym e ∙ sym (ap p q) ∙ h))) (λ t. more t) i)

  found : (p : A → Bool) (xs : List A) (r : A) → In r xs → p r ≡ true → ((x : A) → In x xs → p x ≡ true → x ≡ r) → find p xs ≡ Some r
  found p [] r i h only = absurd i
  found p (y ∷ ys) r i h only = found_by _ p y ys r refl i h only (λ t. found p ys r t h (λ x k q. only x (inr k) q))

module _ {A : Type 0} (wins : A → A → Bool) where
  abbrev kept : Option A → A → Option A
  kept None x = Some x
  kept (Some best) x = if wins x best then Some x else Some best

  abbrev unbeaten : List A → A → Bool
  unbeaten xs x = list_all (λ y. not (wins y x)) xs

  record Rules : Type 0 where
    pub itself : (x : A) → wins x x ≡ false
    pub trans : (x y z : A) → wins x y ≡ true → wins y z ≡ true → wins x z ≡ true
    pub ties : (x y : A) → wins x y ≡ false → wins y x ≡ false → x ≡ y

  -- the value that was kept last
  record Last (best : A) (xs : List A) : Type 0 where
    pub value : A
    pub is : fold kept (Some best) xs ≡ Some value
    pub from : (value ≡ best) ⊎ In value xs
    pub unbeaten_is : unbeaten xs value ≡ true
    pub holds : (y : A) → wins y best ≡ false → wins y value ≡ false

  not_false : (b : Bool) → b ≡ false → not b ≡ true
  not_false b e = ap not e

  and_true : (a b : Bool) → a ≡ true → b ≡ true → (a && b) ≡ true
  and_true a b e f = rw e f

  -- what does not win against the loser does not win against the winner
  weaker_by : (b : Bool) (y x best : A) → Rules → wins y x ≡ b → wins x best ≡ true → wins y best ≡ false → wins y x ≡ false
  weaker_by true y x best rules e h n = absurd (false≢true (sym n ∙ rules.trans y x best e h))
  weaker_by false y x best rules e h n = e

  last_by : (b : Bool) (best x : A) (xs : List A) → Rules → wins x best ≡ b → Last best xs → Last x xs → Last best (x ∷ xs)
  last_by true best x xs rules e stays moves = record {
    value = moves.value;
    is = rw e moves.is;
    from = ⊎_elim (λ (q : moves.value ≡ x). inr (inl q)) (λ t. inr (inr t)) moves.from;
    unbeaten_is = and_true (not (wins x moves.value)) (unbeaten xs moves.value) (not_false (wins x moves.value) (moves.holds x (rules.itself x))) moves.unbeaten_is;
    holds = λ y n. moves.holds y (weaker_by _ y x best rules refl e n);
  }
  last_by false best x xs rules e stays moves = record {
    value = stays.value;
    is = rw e stays.is;
    from = ⊎_elim (λ (q : stays.value ≡ best). inl q) (λ t. inr (inr t)) stays.from;
    unbeaten_is = and_true (not (wins x stays.value)) (unbeaten xs stays.value) (not_false (wins x stays.value) (stays.holds x e)) stays.unbeaten_is;
    holds = stays.holds;
  }

  last : (best : A) (xs : List A) → Rules → Last best xs
  last best [] rules = record { value = best; is = refl; from = inl refl; unbeaten_is = refl; holds = λ y n. n }
  last best (x ∷ xs) rules = last_by _ best x xs rules refl (last best xs rules) (last x xs rules)

  not_true : (b : Bool) → not b ≡ true → b ≡ false
  not_true true h = absurd (false≢true h)
  not_true false h = refl

  kept_is_found : (xs : List A) → Rules → fold kept None xs ≡ find (unbeaten xs) xs
  kept_is_found [] rules = refl
  kept_is_found (x ∷ xs) rules =
      let end = last x xs rules in
      let member : In end.value (x ∷ xs) = end.from in
      let passes : unbeaten (x ∷ xs) end.value ≡ true = and_true (not (wins x end.value)) (unbeaten xs end.value) (not_false (wins x end.value) (end.holds x (rules.itself x))) end.unbeaten_is in
      end.is ∙ sym (found (unbeaten (x ∷ xs)) (x ∷ xs) end.value member passes (λ y i h.
      rules.ties y end.value
      (not_true (wins y end.value) (all_in (λ z. not (wins z end.value)) (x ∷ xs) y passes i))
      (not_true (wins end.value y) (all_in (λ z. not (wins z y)) (x ∷ xs) end.value h member))))

-- ---- by how often values stand, and their order

greater : (o : Ordering) → is_gt o ≡ true → o ≡ Greater
greater Less h = absurd (false≢true h)
greater Equal h = absurd (false≢true h)
greater Greater h = refl

neither : (o p : Ordering) → o ≡ ordering_reverse p → is_gt o ≡ false → is_gt p ≡ false → o ≡ Equal
neither Less p e h k = absurd (false≢true (sym k ∙ ap is_gt (turned p e)))
  where
    turned : (p : Ordering) → Less ≡ ordering_reverse p → p ≡ Greater
    turned Less e = cc
    turned Equal e = cc
    turned Greater e = refl
neither Equal p e h k = refl
neither Greater p e h k = absurd (false≢true (sym h))

module _ {A : Type 0} (order : A → A → Ordering) where
  gt_trans : IsTotalOrder order → (x y z : A) → is_gt (order x y) ≡ true → is_gt (order y z) ≡ true → is_gt (order x z) ≡ true
  gt_trans o x y z h k =
      let below : order y x ≡ Less = o.antisymm y x ∙ ap ordering_reverse (greater (order x y) h) in
      let lower : order z y ≡ Less = o.antisymm z y ∙ ap ordering_reverse (greater (order y z) k) in
      ap is_gt (o.antisymm x z ∙ ap ordering_reverse (o.trans z y x lower below))

  data Outdoes (list : List A) (x y : A) : Type 0 where
    more : times order list y < times order list x → Outdoes list x y
    level : times order list y ≡ times order list x → is_gt (order x y) ≡ true → Outdoes list x y

  says_by : (a b c : Bool) (list : List A) (x y : A) → ltb (times order list y) (times order list x) ≡ a → eqb (times order list y) (times order list x) ≡ b → is_gt (order x y) ≡ c → outdoes order list x y ≡ true → Outdoes list x y
  says_by true b c list x y e f g h = more (grind (arith, nat_tests, e))
  says_by false true true list x y e f g h = level (grind (arith, nat_tests, f)) g
  says_by false true false list x y e f g h = absurd (false≢true (sym (rw (e, f, g) refl) ∙ h))
  says_by false false c list x y e f g h = absurd (false≢true (sym (rw (e, f) refl) ∙ h))

  says : (list : List A) (x y : A) → outdoes order list x y ≡ true → Outdoes list x y
  says list x y h = says_by _ _ _ list x y refl refl refl h

  by_more : (list : List A) (x y : A) → times order list y < times order list x → outdoes order list x y ≡ true
  by_more list x y lt = grind (arith, nat_tests)

  by_level : (list : List A) (x y : A) → times order list y ≡ times order list x → is_gt (order x y) ≡ true → outdoes order list x y ≡ true
  by_level list x y e g = rw g (grind (arith, nat_tests))

  outdoes_trans : IsTotalOrder order → (list : List A) (x y z : A) → outdoes order list x y ≡ true → outdoes order list y z ≡ true → outdoes order list x z ≡ true
  outdoes_trans o list x y z h k = elim (says list x y h) [
    | more a ↦ elim (says list y z k) [
      | more b ↦ by_more list x z (omega arith)
      | level b g ↦ by_more list x z (omega (arith, b))
    ]
    | level a f ↦ elim (says list y z k) [
      | more b ↦ by_more list x z (omega (arith, a))
      | level b g ↦ by_level list x z (b ∙ a) (gt_trans o x y z f g)
    ]
  ]

  outdoes_itself : IsTotalOrder order → (list : List A) (x : A) → outdoes order list x x ≡ false
  outdoes_itself o list x = rw (ap is_gt (tied_itself o x)) (grind (arith, nat_tests))

  data Stays (list : List A) (x y : A) : Type 0 where
    less : times order list x < times order list y → Stays list x y
    level_with : times order list y ≡ times order list x → is_gt (order x y) ≡ false → Stays list x y

  stays_by : (a b c : Bool) (list : List A) (x y : A) → ltb (times order list y) (times order list x) ≡ a → eqb (times order list y) (times order list x) ≡ b → is_gt (order x y) ≡ c → outdoes order list x y ≡ false → Stays list x y
  stays_by true b c list x y e f g h = absurd (false≢true (sym h ∙ rw e refl))
  stays_by false true true list x y e f g h = absurd (false≢true (sym h ∙ rw (e, f, g) refl))
  stays_by false true false list x y e f g h = level_with (grind (arith, nat_tests, f)) g
  stays_by false false c list x y e f g h = less (grind (arith, nat_tests, e, f))

  outdoes_ties : IsTotalOrder order → ((a b : A) → order a b ≡ Equal → a ≡ b) → (list : List A) (x y : A) → outdoes order list x y ≡ false → outdoes order list y x ≡ false → x ≡ y
  outdoes_ties o same list x y h k = elim (stays_by _ _ _ list x y refl refl refl h) [
    | less a ↦ elim (stays_by _ _ _ list y x refl refl refl k) [
      | less b ↦ absurd (omega arith)
      | level_with b g ↦ absurd (omega (arith, a, b))
    ]
    | level_with a f ↦ elim (stays_by _ _ _ list y x refl refl refl k) [
      | less b ↦ absurd (omega (arith, a, b))
      | level_with b g ↦ same x y (neither (order x y) (order y x) (o.antisymm x y) f g)
    ]
  ]

  rules_of : IsTotalOrder order → ((a b : A) → order a b ≡ Equal → a ≡ b) → (list : List A) → Rules (outdoes order list)
  rules_of o same list = record { itself = outdoes_itself o list; trans = outdoes_trans o list; ties = outdoes_ties o same list }

  after_is_kept : (list : List A) (best : Option A) (x : A) → after order list best x ≡ kept (outdoes order list) best x
  after_is_kept list None x = refl
  after_is_kept list (Some best) x = refl

  fold_is : (list : List A) (best : Option A) (xs : List A) → fold (after order list) best xs ≡ fold (kept (outdoes order list)) best xs
  fold_is list best [] = refl
  fold_is list best (x ∷ xs) = ap (λ (b : Option A). fold (after order list) b xs) (after_is_kept list best x) ∙ fold_is list (kept (outdoes order list) best x) xs

  pub leader_is_chosen : IsTotalOrder order → ((a b : A) → order a b ≡ Equal → a ≡ b) → (list : List A) → leader order list list ≡ chosen order list
  leader_is_chosen o same list = fold_is list None list ∙ kept_is_found (outdoes order list) list (rules_of o same list)

  -- ---- by places

  abbrev pub at : List A → Option ℕ → Option A
  at values best = option_and_then (λ place. slice_get values place) best

  here : (values : List A) (i : ℕ) (value other : A) → i < length values → value ≡ get_or values i value → slice_get values i ≡ Some other → value ≡ other
  here values i value other lt is e = same_Some value other (sym (slice_get_read values (length values) i value refl lt is) ∙ e)

  pub stays_at : (values : List A) (best : Option ℕ) (place i : ℕ) (known value other : A) → best ≡ Some place → place < length values → i < length values
      → known ≡ get_or values place known → value ≡ get_or values i value → outdoes order values value known ≡ false → slice_get values i ≡ Some other
      → slice_get values place ≡ after order values (at values best) other
  stays_at values best place i known value other is below lt knows reads loses e =
      let k : slice_get values place ≡ Some known = slice_get_read values (length values) place known refl below knows in
      let v : value ≡ other = here values i value other lt reads e in
      let n : outdoes order values other known ≡ false = ap (λ (x : A). outdoes order values x known) (sym v) ∙ loses in
      rw (is, k, n) refl

  pub moves_at : (values : List A) (best : Option ℕ) (place i : ℕ) (known value other : A) → best ≡ Some place → place < length values → i < length values
      → known ≡ get_or values place known → value ≡ get_or values i value → outdoes order values value known ≡ true → slice_get values i ≡ Some other
      → slice_get values i ≡ after order values (at values best) other
  moves_at values best place i known value other is below lt knows reads beats e =
      let k : slice_get values place ≡ Some known = slice_get_read values (length values) place known refl below knows in
      let v : value ≡ other = here values i value other lt reads e in
      let n : outdoes order values other known ≡ true = ap (λ (x : A). outdoes order values x known) (sym v) ∙ beats in
      rw (is, k, n) e

  pub leader_more : (values : List A) (best new : Option ℕ) (i : ℕ) → i < length values → at values best ≡ leader order values (take i values)
      → ((value : A) → slice_get values i ≡ Some value → at values new ≡ after order values (at values best) value)
      → at values new ≡ leader order values (take (i + 1) values)
  leader_more values best new i lt so_far step =
      ⊎_elim
      (λ (f : (x : A) × (i < length values) × (slice_get values i ≡ Some x) × (get_or values i x ≡ x)).
      step f.0 f.2 ∙ ap (λ (b : Option A). after order values b f.0) so_far
      ∙ sym (ap (λ (l : List A). leader order values l) (take_more values i f.0 lt ∙ ap (λ (x : A). take i values ++ x ∷ []) f.3) ∙ fold-append (after order values) None (take i values) (f.0 ∷ [])))
      (λ p. absurd (omega (arith, p.0, lt)))
      (slice_get_cases values i).1
