-- Ascending numbers from 0 to 63 are the set of themselves.
use Rattle.std.proofs.Common.{◌≡◌, ℕ, zero, suc, ◌+◌, ◌<◌, ◌≤◌, Bool, true, false, cond, List, [], ◌∷◌, refl, sym, ap}
use Rattle.std.proofs.{Common.{◌∙◌, arith, ⊎_elim}, lemmas.{Bool.{cases_order, eq-eqb, ne_eqb}, List.Elements.All-cons}}
use Rattle.std.{proofs.lemmas.List.Elements.{All-head, All-nil, All-tail}, specs.Prelude.{All, AllPairs, ◌==◌, ◌||◌}}
use Rattle.std.specs.{Prelude.filter, List.range_with_len}
use Rattle.dir_values.proofs.Orders.{AllPairs-cons, AllPairs-head, AllPairs-nil, AllPairs-tail}
use Rattle.list_values.specs.{Masks.is_set, NumberSets.{has_number, numbers_from, numbers_that}}
use Rattle.value_laws.specs.{Again.KeptNumbersAreInRange, Ranges.AreNumbersInRange}

abbrev Less : ℕ → ℕ → Type 0
Less earlier later = earlier < later

-- the numbers begin there or later
abbrev From : ℕ → List ℕ → Type 0
From first numbers = All (λ (n : ℕ). first ≤ n) numbers

-- and end before
abbrev Below : ℕ → List ℕ → Type 0
Below last numbers = All (λ (n : ℕ). n < last) numbers

from_next : (first : ℕ) (numbers : List ℕ) → From (first + 1) numbers → From first numbers
from_next first numbers from = λ k d lt. let its = from k d lt in omega (arith, its)

-- a number before them all is not among them
not_among : (k : ℕ) (numbers : List ℕ) → From (k + 1) numbers → has_number numbers k ≡ false
not_among k [] from = refl
not_among k (n ∷ rest) from =
    let its = All-head (λ (n : ℕ). k + 1 ≤ n) n rest from in
    let other : (n == k) ≡ false = ne_eqb n k (λ is. absurd (omega (arith, is, its))) in
    rw other (not_among k rest (All-tail (λ (n : ℕ). k + 1 ≤ n) n rest from))

-- one before a run of numbers does not matter there
without_first : (n : ℕ) (rest : List ℕ) (first count : ℕ) → n < first
    → filter (has_number (n ∷ rest)) (range_with_len first count)
    ≡ filter (has_number rest) (range_with_len first count)
without_first n rest first zero lt = refl
without_first n rest first (suc count) lt =
    let other : (n == first) ≡ false = ne_eqb n first (λ is. absurd (omega (arith, is, lt))) in
    let later = without_first n rest (first + 1) count (omega (arith, lt)) in
    rw (other, later) refl

-- the numbers of a run that are among some of them that ascend are these
abbrev IsAlone : ℕ → ℕ → List ℕ → Type 0
IsAlone first count numbers =
    AllPairs Less numbers → From first numbers → Below (first + count) numbers
    → filter (has_number numbers) (range_with_len first count) ≡ numbers

among_run : (first count : ℕ) (numbers : List ℕ) → IsAlone first count numbers
among_run first zero [] up from below = refl
among_run first zero (n ∷ rest) up from below =
    let a = All-head (λ (n : ℕ). first ≤ n) n rest from in
    let b = All-head (λ (n : ℕ). n < first + 0) n rest below in
    absurd (omega (arith, a, b))
among_run first (suc count) [] up from below =
    among_run (first + 1) count [] up (All-nil (λ (n : ℕ). first + 1 ≤ n)) (All-nil (λ (n : ℕ). n < first + 1 + count))
among_run first (suc count) (n ∷ rest) up from below =
    ⊎_elim (here (among_run (first + 1) count rest)) (⊎_elim (later (among_run (first + 1) count (n ∷ rest))) before)
    (cases_order first n)
  where
    above : From (n + 1) rest
    above = λ k d lt. let its = AllPairs-head Less n rest up k d lt in omega (arith, its)

    below_all : (numbers : List ℕ) → Below (first + suc count) numbers → Below (first + 1 + count) numbers
    below_all numbers all = λ k d lt. let its = all k d lt in omega (arith, its)

    here : IsAlone (first + 1) count rest → first ≡ n
        → filter (has_number (n ∷ rest)) (range_with_len first (suc count)) ≡ n ∷ rest
    here more is =
        let same : (n == first) ≡ true = eq-eqb n first (sym is) in
        let next : From (first + 1) rest = λ k d lt. let its = above k d lt in omega (arith, its, is) in
        let others =
        without_first n rest (first + 1) count (omega (arith, is))
        ∙ more (AllPairs-tail Less n rest up) next
        (below_all rest (All-tail (λ (m : ℕ). m < first + suc count) n rest below)) in
        let tail : List ℕ = filter (has_number (n ∷ rest)) (range_with_len (first + 1) count) in
        ap (λ (b : Bool). cond (b || has_number rest first) (first ∷ tail) tail) same
        ∙ ap (λ (l : List ℕ). first ∷ l) others ∙ ap (λ (m : ℕ). m ∷ rest) is

    later : IsAlone (first + 1) count (n ∷ rest) → first < n
        → filter (has_number (n ∷ rest)) (range_with_len first (suc count)) ≡ n ∷ rest
    later more lt =
        let all : From (first + 1) (n ∷ rest) =
        All-cons (λ (m : ℕ). first + 1 ≤ m) n rest (omega (arith, lt))
        (λ k d within. let its = above k d within in omega (arith, its, lt)) in
        let tail : List ℕ = filter (has_number (n ∷ rest)) (range_with_len (first + 1) count) in
        ap (λ (b : Bool). cond b (first ∷ tail) tail) (not_among first (n ∷ rest) all)
        ∙ more up all (below_all (n ∷ rest) below)

    before : n < first → filter (has_number (n ∷ rest)) (range_with_len first (suc count)) ≡ n ∷ rest
    before lt = let its = All-head (λ (m : ℕ). first ≤ m) n rest from in absurd (omega (arith, its, lt))

pub numbers_alone : (numbers : List ℕ) → AreNumbersInRange numbers → numbers_that (has_number numbers) ≡ numbers
unfolding numbers_from
numbers_alone numbers are =
    among_run 0 64 numbers are.ascend (λ k d lt. omega arith)
    (λ k d lt. let its = are.each k d lt in omega (arith, its))

-- ---- numbers that are kept as bits

record AreOfRun (first count : ℕ) (numbers : List ℕ) : Type 0 where
  up : AllPairs Less numbers
  from : From first numbers
  below : Below (first + count) numbers

of_run : (test : ℕ → Bool) (first count : ℕ) → AreOfRun first count (filter test (range_with_len first count))
of_run test first zero = record {
  up = AllPairs-nil Less;
  from = All-nil (λ (n : ℕ). first ≤ n);
  below = All-nil (λ (n : ℕ). n < first + 0);
}
of_run test first (suc count) = by (test first) (of_run test (first + 1) count)
  where
    rest : List ℕ
    rest = filter test (range_with_len (first + 1) count)

    by : (b : Bool) → AreOfRun (first + 1) count rest → AreOfRun first (suc count) (cond b (first ∷ rest) rest)
    by true more = record {
      up = AllPairs-cons Less first rest (λ k d lt. let its = more.from k d lt in omega (arith, its)) more.up;
      from = All-cons (λ (n : ℕ). first ≤ n) first rest (omega arith) (from_next first rest more.from);
      below = All-cons (λ (n : ℕ). n < first + suc count) first rest (omega arith)
          (λ k d lt. let its = more.below k d lt in omega (arith, its));
    }
    by false more = record {
      up = more.up;
      from = from_next first rest more.from;
      below = λ k d lt. let its = more.below k d lt in omega (arith, its);
    }

pub kept_in_range : KeptNumbersAreInRange
unfolding numbers_from
kept_in_range mask =
    let run = of_run (is_set mask) 0 64 in
    record { ascend = run.up; each = λ k d lt. let its = run.below k d lt in omega (arith, its) }
