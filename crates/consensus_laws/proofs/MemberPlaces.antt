-- Each place of a list has a member that stands there: the least number that enough members are at or below.
use Rattle.std.proofs.Common.{◌≡◌, ◌∙◌, ℕ, zero, suc, ◌+◌, ◌<◌, ◌≤◌, Bool, true, false, cond, List, [], ◌∷◌, length}
use Rattle.std.proofs.{Common.{Option, Some, refl, sym, ap, arith, ⊎_elim}, lemmas.Bool.{and_from, cases_lt}}
use Rattle.std.proofs.lemmas.{Bool.{false≢true, le-leb, lt-leb, lt-ltb, Decides.nat_tests}, List.Sums.sum_by-cons}
use Rattle.std.specs.{Prelude.{nat_le, nat_lt, unwrap_or}, List.{count_by, find}}
use Rattle.count_terms.specs.Counts.{member_at, middle, stands_at}
use Rattle.consensus_laws.specs.Members.{IsMemberAt, MembersAreThere}

-- 1 where it is so, and else 0
abbrev one_if : Bool → ℕ
one_if t = cond t 1 0

-- how many members are at or below a number, and how many below it
abbrev upto : ℕ → List ℕ → ℕ
upto n list = count_by (λ y. nat_le y n) list

abbrev under : ℕ → List ℕ → ℕ
under n list = count_by (λ y. nat_lt y n) list

-- with one member more in front
upto_more : (n y : ℕ) (list : List ℕ) → upto n (y ∷ list) ≡ one_if (nat_le y n) + upto n list
upto_more n y list = sum_by-cons (λ x. one_if (nat_le x n)) y list

under_more : (n y : ℕ) (list : List ℕ) → under n (y ∷ list) ≡ one_if (nat_lt y n) + under n list
under_more n y list = sum_by-cons (λ x. one_if (nat_lt x n)) y list

abbrev total : List ℕ → ℕ
total [] = 0
total (y ∷ list) = y + total list

-- all are at or below a number that is great enough
all_upto : (list : List ℕ) (n : ℕ) → total list ≤ n → upto n list ≡ length list
all_upto [] n few = refl
all_upto (y ∷ list) n few =
    let rest = all_upto list n (omega (arith, few)) in
    let one : one_if (nat_le y n) ≡ 1 = ap one_if (le-leb y n (omega (arith, few))) in
    omega (arith, upto_more n y list, one, rest)

not_below : (y n : ℕ) → n ≤ y → nat_lt y n ≡ false
not_below y n ge = grind (arith, nat_tests, ge)

-- none is below 0
none_under : (list : List ℕ) → under 0 list ≡ 0
none_under [] = refl
none_under (y ∷ list) =
    let none : one_if (nat_lt y 0) ≡ 0 = ap one_if (not_below y 0 (omega arith)) in
    omega (arith, under_more 0 y list, none, none_under list)

-- those that are below the next number are at or below this one
next_same : (y n : ℕ) → nat_lt y (suc n) ≡ nat_le y n
next_same y n =
    ⊎_elim (λ (more : n < y). not_below y (suc n) (omega (arith, more)) ∙ sym (lt-leb y n more))
    (λ (le : y ≤ n). lt-ltb y (suc n) (omega (arith, le)) ∙ sym (le-leb y n le)) (cases_lt n y)

under_next : (n : ℕ) (list : List ℕ) → under (suc n) list ≡ upto n list
under_next n list = λ i. count_by (λ y. next_same y n i) list

-- the least number that enough members are at or below
record IsLeast (place : ℕ) (list : List ℕ) : Type 0 where
  least : ℕ
  enough : place < upto least list
  few : under least list ≤ place

least_from : (n place : ℕ) (list : List ℕ) → place < upto n list → IsLeast place list
least_from zero place list enough =
    record { least = 0; enough = enough; few = omega (arith, none_under list) }
least_from (suc n) place list enough =
    ⊎_elim (λ (lt : place < upto n list). least_from n place list lt)
    (λ (le : upto n list ≤ place).
    record { least = suc n; enough = enough; few = omega (arith, under_next n list, le) })
    (cases_lt place (upto n list))

-- ---- it is a member

-- what fails a test is another than what passes it
is_another : (p : ℕ → Bool) (y n : ℕ) → p y ≡ false → p n ≡ true → nat_le y n ≡ nat_lt y n
is_another p y n fails is =
    ⊎_elim (λ (lt : y < n). le-leb y n (omega (arith, lt)) ∙ sym (lt-ltb y n lt))
    (λ (ge : n ≤ y).
    ⊎_elim (λ (lt : n < y). lt-leb y n lt ∙ sym (not_below y n ge))
    (λ (le : y ≤ n).
    let same : y ≡ n = omega (arith, ge, le) in
    absurd (false≢true (sym fails ∙ ap p same ∙ is)))
    (cases_lt n y))
    (cases_lt y n)

-- what passes a test is found where more members are at or below it than below it
found_of : (p : ℕ → Bool) (n : ℕ) (list : List ℕ) → p n ≡ true → under n list < upto n list
    → (x : ℕ) × (find p list ≡ Some x)
found_of p n [] passes more = absurd (omega (arith, more))
found_of p n (y ∷ list) passes more = by (p y) refl (λ less. found_of p n list passes less)
  where
    by : (t : Bool) → p y ≡ t → (under n list < upto n list → (x : ℕ) × (find p list ≡ Some x))
        → (x : ℕ) × (cond t (Some y) (find p list) ≡ Some x)
    by true is others = (y, refl)
    by false is others =
        let both : one_if (nat_le y n) ≡ one_if (nat_lt y n) =
        ap one_if (is_another p y n is passes) in
        others (omega (arith, upto_more n y list, under_more n y list, both, more))

stands : (place n : ℕ) (list : List ℕ) → under n list ≤ place → place < upto n list → stands_at place list n ≡ true
stands place n list few enough = and_from _ _ (le-leb (under n list) place few) (lt-ltb place (upto n list) enough)

at_place : (place : ℕ) (list : List ℕ) → place < length list → IsMemberAt place list (member_at place list)
unfolding member_at
at_place place list within =
    let all = all_upto list (total list) (omega arith) in
    let it = least_from (total list) place list (omega (arith, all, within)) in
    let found =
    found_of (stands_at place list) it.least list (stands place it.least list it.few it.enough)
    (omega (arith, it.few, it.enough)) in
    record {
      member = found.0;
      found = found.1;
      is = ap (λ (o : Option ℕ). unwrap_or o 0) found.1;
    }

pub members_there : MembersAreThere
members_there = record {
  places = at_place;
  medians = λ list some. at_place (middle list) list (omega (arith, some));
}
