-- A new table keeps one list, and so do a seat that gives a part to a new seat and a seat that gets the parts of
-- another.
use Rattle.std.proofs.Common.{◌≡◌, ◌≢◌, ℕ, ◌+◌, ◌-◌, ◌<◌, ◌≤◌, zero, suc, List, [], ◌∷◌, ◌++◌, length, set, Some, None}
use Rattle.std.proofs.Common.{false, refl, sym, ap, ◌∙◌, subst, inl, arith, length-append}
use Rattle.std.{proofs.lemmas.List.Sums.{sum_by-cons, sum_by-append, sum_by_push}, specs.List.AllByRecursion}
use mathlib.Core.Option.{some}
use mathlib.Core.Logic.{dite}
use native.Mathlib.Decide.{ℕ_discrete}
use lib.ListN.{get_elem?}
use Rattle.atomic_table.{specs.Table.{opening, Splits, Joins}, proofs.Lists.set_else}
use Rattle.period_lock.specs.{declared.rule.{View.View, Part.Part}, Kept.{IsPartOf, Fits, Kept, fresh_part}}
use Rattle.period_lock.specs.Kept.{fresh_parts, first_view, gathered_view, seated_view, spent, joined_view}
use Rattle.period_lock.{specs.Kept.{without_first, first_of, parts_of, times}, proofs.{Sums.sum_set, Entries.one_if}}
use Rattle.period_lock.proofs.{Entries.{one_if_same, one_if_apart, count_of, count_cons}, TurnWords.some_is}
use Rattle.period_lock.proofs.Views.{not_both, each_set, each_snoc, each_one, place_set, place_snoc}

module _ (X : Type 0) where
  pub length-fresh_parts : (from count : ℕ) → length (fresh_parts {X = X} from count) ≡ count
  length-fresh_parts from zero = refl
  length-fresh_parts from (suc count) = ap suc (length-fresh_parts (suc from) count)

  not_before : (from count n : ℕ) → n < from → count_of n (fresh_parts {X = X} from count) ≡ 0
  not_before from zero n low = refl
  not_before from (suc count) n low =
      let other : one_if from n ≡ 0 = one_if_apart from n (λ (same : from ≡ n). omega (arith, same, low)) in
      omega (
        arith,
        count_cons n (fresh_part {X = X} from) (fresh_parts (suc from) count),
        other,
        not_before
            (suc from) count n (omega (arith, low)),
      )

  -- each number from the first on stands once
  once_fresh : (from count n : ℕ) → from ≤ n → n < from + count → count_of n (fresh_parts {X = X} from count) ≡ 1
  once_fresh from zero n low high = absurd (omega (arith, low, high))
  once_fresh from (suc count) n low high =
      dite (ℕ_discrete from n)
      (λ (same : from ≡ n).
      let here : one_if from n ≡ 1 = one_if_same from n same in
      omega (
        arith,
        count_cons n (fresh_part {X = X} from) (fresh_parts (suc from) count),
        here,
        not_before (suc from)
            count n (omega (arith, same)),
      ))
      (λ (apart : from ≢ n).
      let other : one_if from n ≡ 0 = one_if_apart from n apart in
      omega (
        arith,
        count_cons n (fresh_part {X = X} from) (fresh_parts (suc from) count),
        other,
        once_fresh
            (suc from) count n (omega (arith, low, apart)) (omega (arith, high)),
      ))

  fresh_fit : (total from count : ℕ) → from + count ≤ total → AllByRecursion (IsPartOf {X = X} [] total)
      (fresh_parts from count)
  fresh_fit total from zero below = tt
  fresh_fit total from (suc count) below = (
    record { number = omega (arith, below); seen = ([], refl); mine = refl },
    fresh_fit total (suc from) count
        (omega (arith, below)),
  )

  all_append : (P : Part X → Type 0) (xs ys : List (Part X)) → AllByRecursion P xs → AllByRecursion P ys
      → AllByRecursion P (xs ++ ys)
  all_append P [] ys all more = more
  all_append P (x ∷ xs) ys all more = (all.0, all_append P xs ys all.1 more)

  -- of all parts of a new table, each number stands once
  once_first : (count n : ℕ) → 0 < count → n < count → count_of n
      (fresh_part {X = X} (count - 1) ∷ fresh_parts 0 (count - 1)) ≡ 1
  once_first count n any below =
      dite (ℕ_discrete (count - 1) n)
      (λ (same : count - 1 ≡ n).
      let here : one_if (count - 1) n ≡ 1 = one_if_same (count - 1) n same in
      omega (
        arith,
        count_cons n (fresh_part {X = X} (count - 1)) (fresh_parts 0 (count - 1)),
        here,
        not_after 0
            (count - 1) n (omega (arith, same)),
      ))
      (λ (apart : (count - 1) ≢ n).
      let other : one_if (count - 1) n ≡ 0 = one_if_apart (count - 1) n apart in
      omega (
        arith,
        count_cons n (fresh_part {X = X} (count - 1)) (fresh_parts 0 (count - 1)),
        other,
        once_fresh 0
            (count - 1) n (omega arith) (omega (arith, any, below, apart)),
      ))
    where
      not_after : (from count n : ℕ) → from + count ≤ n → count_of n (fresh_parts {X = X} from count) ≡ 0
      not_after from zero n high = refl
      not_after from (suc count) n high =
          let other : one_if from n ≡ 0 = one_if_apart from n (λ (same : from ≡ n). omega (arith, same, high)) in
          omega (
            arith,
            count_cons n (fresh_part {X = X} from) (fresh_parts (suc from) count),
            other,
            not_after
                (suc from) count n (omega (arith, high)),
          )

module _ {T S X : Type 0} (stands : T → S → List X → Type 0) (front : ℕ) (start : S) (count : ℕ) where
  pub opening_is_kept : (value : T) (n : ℕ) → 0 < count → n ≡ front → stands value start []
      → Kept stands front start count (opening (n ∷ 0 ∷ []) (Some value ∷ []) (first_view start count))
  opening_is_kept value n any is meets = record {
    log = [];
    words = refl;
    counted = omega (arith, is);
    numbered = tt;
    fits = each_one (Fits start [] count) (first_view start count) record {
      start_is = λ s e. sym (some_is start s e);
      parts = (
        record { number = omega (arith, any); seen = ([], refl); mine = refl },
        fresh_fit X count 0 (count - 1)
            (omega (arith, any)),
      );
      live = λ h. refl;
    };
    total = sum_by-cons (λ (v : View S X). length (parts_of v)) (first_view start count) []
        ∙ omega (arith, length-fresh_parts X 0 (count - 1), any);
    once = λ n below. sum_by-cons (times n) (first_view start count) [] ∙ omega (arith, once_first X count n any below);
    place = inl (record {
      word = refl;
      value = value;
      home = refl;
      stands_for = meets;
      nobody = each_one
          (λ (v : View S X). v.holds ≡ false) (first_view start count) refl;
    });
  }

  -- the first of the parts beside a seat's own goes to a new seat
  pub parts_split : (by : ℕ) (own first : Part X) (others : List (Part X))
      → Splits (Kept stands front start count) by (gathered_view start own (first ∷ others)) (gathered_view start own others)
      (seated_view start false first)
  parts_split by own first others s k at =
      let v : View S X = gathered_view start own (first ∷ others) in
      let left : View S X = gathered_view start own others in
      let right : View S X = seated_view start false first in
      let fit = (k.fits by v at).parts in
      let size : View S X → ℕ = λ u. length (parts_of u) in
      record {
        log = k.log;
        words = k.words;
        counted = k.counted;
        numbered = k.numbered;
        fits = each_snoc (Fits start k.log count) (set s.views by left) right
            (each_set (Fits start k.log count) s.views by left k.fits record
            { start_is = λ b e. sym (some_is start b e); parts = (fit.0, fit.1.1); live = λ h. refl })
            record { start_is = λ b e. sym (some_is start b e); parts = (fit.1.0, tt); live = λ h. refl };
        total = sum_by_push size (set s.views by left) right ∙ omega
            (arith, sum_set size s.views by v left at, k.total);
        once = λ n below. sum_by_push (times n) (set s.views by left) right
            ∙ omega (
              arith,
              sum_set (times n) s.views by v left at,
              k.once n below,
              count_cons n own (first ∷ others),
              count_cons n first others,
              count_cons n own others,
              count_cons n first [],
            );
        place = place_snoc stands start k.log record { words = s.words; homes = s.homes; views = set s.views by left }
            right refl (place_set stands start k.log s by v left at refl refl k.place);
      }

  -- a seat gets all parts of another
  pub parts_join : (by : ℕ) (own : Part X) (others : List (Part X)) (other : ℕ) (first : Part X) (more : List (Part X))
      → Joins (Kept stands front start count) by (gathered_view start own others) other (gathered_view start first more)
      (gathered_view start own (others ++ first ∷ more)) spent
  parts_join by own others other first more s k at apart there =
      let v : View S X = gathered_view start own others in
      let w : View S X = gathered_view start first more in
      let both : View S X = gathered_view start own (others ++ first ∷ more) in
      let was : get_elem? s.views other ≡ some w = sym (set_else s.views by other both apart) ∙ there in
      let mine = (k.fits by v at).parts in
      let theirs = (k.fits other w was).parts in
      let size : View S X → ℕ = λ u. length (parts_of u) in
      let views : List (View S X) = set s.views by both in
      record {
        log = k.log;
        words = k.words;
        counted = k.counted;
        numbered = k.numbered;
        fits = each_set (Fits start k.log count) views other spent
            (each_set (Fits start k.log count) s.views by both k.fits record {
              start_is = λ b e. sym (some_is start b e);
              parts =
                  (mine.0, all_append X (IsPartOf k.log count) others (first ∷ more) mine.1 theirs);
              live = λ h. refl;
            })
            record { start_is = λ b e. absurd (none_is b e); parts = tt; live = λ h. absurd (not_both false refl h) };
        total = omega (
          arith,
          sum_set size views other w spent there,
          sum_set size s.views by v both at,
          length-append
              others (first ∷ more),
          k.total,
        );
        once = λ n below. omega (
          arith,
          sum_set (times n) views other w spent there,
          sum_set (times n) s.views by v both at,
          sum_by-append
              (λ (p : Part X). one_if p.number n) (own ∷ others) (first ∷ more),
          k.once n below,
        );
        place = place_set stands start k.log record { words = s.words; homes = s.homes; views = views } other w spent
            there refl refl (place_set stands start k.log s by v both at refl refl k.place);
      }
    where
      none_is : (b : S) → None ≡ Some b → ⊥
      none_is b e = cc

  -- a seat that has the fresh parts from a number on gives the first of them away
  pub split_allowed : (by : ℕ) (v : View S X) (own : Part X) (from left : ℕ)
      → v ≡ gathered_view start own (fresh_parts from left) → 0 < left
      → Splits (Kept stands front start count) by v (without_first v) (first_of v)
  split_allowed by v own from zero is any = absurd (omega (arith, any))
  split_allowed by v own from (suc left) is any =
      subst (λ (u : View S X). Splits (Kept stands front start count) by u (without_first u) (first_of u)) (sym is)
      (parts_split by own (fresh_part from) (fresh_parts (suc from) left))

  pub join_allowed : (by : ℕ) (v : View S X) (own : Part X) (other : ℕ) (w : View S X) (first : Part X)
      (more : List (Part X)) → v ≡ seated_view start false own → w ≡ gathered_view start first more
      → Joins (Kept stands front start count) by v other w (joined_view v w) spent
  join_allowed by v own other w first more is was =
      subst (λ (x : View S X × View S X). Joins (Kept stands front start count) by x.0 other x.1 (joined_view x.0 x.1)
      spent) (λ i. (sym is i, sym was i)) (parts_join by own [] other first more)
