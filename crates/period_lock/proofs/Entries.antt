-- The entries of each pass in a list that grows.
use Rattle.std.proofs.Common.{◌≡◌, ◌≢◌, ℕ, ◌+◌, ◌<◌, List, [], ◌∷◌, ◌++◌, length, Some, None, Option, refl, sym, ap}
use Rattle.std.proofs.{Common.{◌∙◌, append_assoc, eqb, ne_eqb, eq-eqb, arith}, lemmas.List.append-nil}
use Rattle.std.{proofs.lemmas.List.{Elements.filter-append, Sums.sum_by-cons}, specs.List.{count_by, AllByRecursion}}
use Rattle.std.specs.Prelude.{option_to_list}
use mathlib.Core.Bool.{cond}
use mathlib.Core.List.{IsPrefix}
use mathlib.Core.Logic.{dite}
use native.Mathlib.Decide.{ℕ_discrete}
use Rattle.period_lock.specs.{declared.rule.Part.Part, Turns.{entries, entries_by, entry_by}, Kept.IsPartOf}
use Rattle.period_lock.specs.Kept.{grown_part}

-- 1 where the numbers are the same
abbrev pub one_if : ℕ → ℕ → ℕ
one_if m n = cond (eqb m n) 1 0

pub one_if_same : (m n : ℕ) → m ≡ n → one_if m n ≡ 1
one_if_same m n same = rw (eq-eqb m n same) refl

pub one_if_apart : (m n : ℕ) → m ≢ n → one_if m n ≡ 0
one_if_apart m n apart = rw (ne_eqb m n apart) refl

-- how many parts have the number
abbrev pub count_of : {X : Type 0} → ℕ → List (Part X) → ℕ
count_of {X} n parts = count_by (λ (p : Part X). eqb p.number n) parts

module _ {X : Type 0} where
  pub length-entry_by : (n : ℕ) (e : Option X) → length (entry_by n e) ≡ length (option_to_list e)
  length-entry_by n None = refl
  length-entry_by n (Some x) = refl

  pub entries-entry_by : (log : List (ℕ × X)) (n : ℕ) (e : Option X)
      → entries (log ++ entry_by n e) ≡ entries log ++ option_to_list e
  entries-entry_by [] n None = refl
  entries-entry_by [] n (Some x) = refl
  entries-entry_by (y ∷ ys) n e = ap (λ (l : List X). y.1 ∷ l) (entries-entry_by ys n e)

  by_another : (j n : ℕ) (e : Option X) → n ≢ j → entries_by j (entry_by n e) ≡ []
  by_another j n None apart = refl
  by_another j n (Some x) apart = rw (ne_eqb n j apart) refl

  by_itself : (n : ℕ) (e : Option X) → entries_by n (entry_by n e) ≡ entry_by n e
  by_itself n None = refl
  by_itself n (Some x) = rw (eq-eqb n n refl) refl

  others_after : (log : List (ℕ × X)) (j n : ℕ) (e : Option X) → n ≢ j
      → entries_by j (log ++ entry_by n e) ≡ entries_by j log
  others_after log j n e apart =
      filter-append (λ (x : ℕ × X). eqb x.0 j) log (entry_by n e)
      ∙ ap (λ (l : List (ℕ × X)). entries_by j log ++ l) (by_another j n e apart) ∙ append-nil (entries_by j log)

  pub own_after : (log : List (ℕ × X)) (n : ℕ) (e : Option X)
      → entries_by n (log ++ entry_by n e) ≡ entries_by n log ++ entry_by n e
  own_after log n e = filter-append (λ (x : ℕ × X). eqb x.0 n) log (entry_by n e)
      ∙ ap (λ (l : List (ℕ × X)). entries_by n log ++ l) (by_itself n e)

  longer : (xs log more : List (ℕ × X)) → IsPrefix xs log → IsPrefix xs (log ++ more)
  longer xs log more p = (p.0 ++ more, sym (append_assoc xs p.0 more) ∙ ap (λ (l : List (ℕ × X)). l ++ more) p.1)

  pub numbered_after : (count n : ℕ) (e : Option X) (log : List (ℕ × X)) → n < count
      → AllByRecursion (λ (x : ℕ × X). x.0 < count) log → AllByRecursion (λ (x : ℕ × X). x.0 < count)
      (log ++ entry_by n e)
  numbered_after count n None [] below all = all
  numbered_after count n (Some x) [] below all = (below, tt)
  numbered_after count n e (y ∷ ys) below all = (all.0, numbered_after count n e ys below all.1)

  -- the part that adds an entry, where it has seen all
  pub part_grown : (count : ℕ) (log : List (ℕ × X)) (e : Option X) (part : Part X) → part.seen ≡ log
      → IsPartOf log count part → IsPartOf (log ++ entry_by part.number e) count (grown_part e part)
  part_grown count log e part all fits = record {
    number = fits.number;
    seen = (
      [],
      append-nil (part.seen ++ entry_by part.number e)
          ∙ ap (λ (l : List (ℕ × X)). l ++ entry_by part.number e) all,
    );
    mine = own_after log part.number e ∙ ap (λ (l : List (ℕ × X)). l ++ entry_by part.number e) fits.mine;
  }

  part_apart : (count : ℕ) (log : List (ℕ × X)) (n : ℕ) (e : Option X) (part : Part X) → n ≢ part.number
      → IsPartOf log count part → IsPartOf (log ++ entry_by n e) count part
  part_apart count log n e part apart fits = record {
    number = fits.number;
    seen = longer part.seen log (entry_by n e) fits.seen;
    mine = others_after log part.number n e apart ∙ fits.mine;
  }

  pub count_cons : (n : ℕ) (part : Part X) (parts : List (Part X))
      → count_of n (part ∷ parts) ≡ one_if part.number n + count_of n parts
  count_cons n part parts = sum_by-cons (λ (p : Part X). one_if p.number n) part parts

  -- the parts of other numbers
  pub parts_apart : (count : ℕ) (log : List (ℕ × X)) (n : ℕ) (e : Option X) (parts : List (Part X))
      → count_of n parts ≡ 0
      → AllByRecursion (IsPartOf log count) parts → AllByRecursion (IsPartOf (log ++ entry_by n e) count) parts
  parts_apart count log n e [] none_there all = tt
  parts_apart count log n e (part ∷ parts) none_there all =
      dite (ℕ_discrete part.number n)
      (λ (same : part.number ≡ n). absurd
      (omega (arith, none_there, count_cons n part parts, one_if_same part.number n same)))
      (λ (apart : part.number ≢ n). (
        part_apart count log n e part (λ h. apart (sym h)) all.0,
        parts_apart count log n e parts (omega (arith, none_there, count_cons n part parts)) all.1,
      ))
