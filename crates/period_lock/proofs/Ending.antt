-- What is left when one seat has the parts of all passes.
use Rattle.std.proofs.Common.{◌≡◌, ◌≢◌, ℕ, ◌<◌, ◌≤◌, suc, List, [], ◌∷◌, ◌++◌, length, map, Some, Option, false, refl}
use Rattle.std.proofs.{Common.{sym, ap, ◌∙◌, subst, ⊎_elim, arith, eq-eqb, ne_eqb}, lemmas.List.append-nil}
use Rattle.std.proofs.lemmas.List.{length-map, Elements.{All-cons, All-nil}, Sorted.IsPermutation-refl}
use Rattle.std.proofs.lemmas.List.Sorted.{IsPermutation-trans, IsPermutation-cons, IsPermutation-append_right}
use Rattle.std.{proofs.lemmas.List.Sorted.IsPermutation-middle, specs.Prelude.{All, IsPermutation}}
use Rattle.std.specs.List.{AllByRecursion, flat_map}
use mathlib.Core.Option.{some, some-injective}
use mathlib.Core.List.{IsPrefix}
use mathlib.Core.Logic.{dite}
use native.Mathlib.Decide.{ℕ_discrete}
use lib.ListN.{get_elem?}
use Rattle.atomic_table.specs.Table.{State, Seen, Final}
use Rattle.period_lock.specs.{declared.rule.{View.View, Part.Part}, Turns.{Lock, Knowledge, EndsIn, entries_by}}
use Rattle.period_lock.specs.Kept.{IsPartOf, Kept, IsHome, IsOut, gathered_view, parts_of, parts_from, part_of, times}
use Rattle.period_lock.proofs.{Sums.{two_at_most_sum, sum_at_one}, Entries.{one_if_same, one_if_apart, count_of}}
use Rattle.period_lock.proofs.{Entries.count_cons, Views.not_both, Meeting.parts_shift}

module _ {X : Type 0} where
  -- the entries of a list that have the numbers of these parts
  abbrev by_parts : List (Part X) → List (ℕ × X) → List (ℕ × X)
  by_parts parts log = flat_map (λ (p : Part X). entries_by p.number log) parts

  by_parts-nil : (parts : List (Part X)) → by_parts parts [] ≡ []
  by_parts-nil [] = refl
  by_parts-nil (p ∷ ps) = by_parts-nil ps

  -- an entry of none of them
  without : (parts : List (Part X)) (e : ℕ × X) (log : List (ℕ × X)) → count_of e.0 parts ≡ 0
      → by_parts parts (e ∷ log) ≡ by_parts parts log
  without [] e log nowhere = refl
  without (p ∷ ps) e log nowhere =
      dite (ℕ_discrete p.number e.0)
      (λ (same : p.number ≡ e.0). absurd (omega (arith, nowhere, count_cons e.0 p ps, one_if_same p.number e.0 same)))
      (λ (apart : p.number ≢ e.0). rw (ne_eqb e.0 p.number (λ (h : e.0 ≡ p.number). apart (sym h)))
      (ap (λ (l : List (ℕ × X)). entries_by p.number log ++ l)
      (without ps e log (omega (arith, nowhere, count_cons e.0 p ps)))))

  -- an entry of one of them
  within : (parts : List (Part X)) (e : ℕ × X) (log : List (ℕ × X)) → count_of e.0 parts ≡ 1
      → IsPermutation (by_parts parts (e ∷ log)) (e ∷ by_parts parts log)
  within [] e log once = absurd (omega (arith, once))
  within (p ∷ ps) e log once =
      dite (ℕ_discrete p.number e.0)
      (λ (same : p.number ≡ e.0).
      rw (eq-eqb e.0 p.number (sym same))
      (subst (λ (l : List (ℕ × X)). IsPermutation (e ∷ (entries_by p.number log ++ l))
      (e ∷ (entries_by p.number log ++ by_parts ps log)))
      (sym (without ps e log (omega (arith, once, count_cons e.0 p ps, one_if_same p.number e.0 same))))
      (IsPermutation-refl _)))
      (λ (apart : p.number ≢ e.0).
      let more : IsPermutation (by_parts ps (e ∷ log)) (e ∷ by_parts ps log) = within ps e log
      (omega (arith, once, count_cons e.0 p ps, one_if_apart p.number e.0 apart)) in
      rw (ne_eqb e.0 p.number (λ (h : e.0 ≡ p.number). apart (sym h)))
      (IsPermutation-trans _ _ _ (IsPermutation-append_right (entries_by p.number log) _ _ more)
      (IsPermutation-middle (entries_by p.number log) e (by_parts ps log))))

  -- where each number below the count stands in one part, the parts have each entry once
  whole : (count : ℕ) (parts : List (Part X)) → ((n : ℕ) → n < count → count_of n parts ≡ 1) → (log : List (ℕ × X))
      → AllByRecursion (λ (e : ℕ × X). e.0 < count) log → IsPermutation (by_parts parts log) log
  whole count parts once [] numbered = subst (λ (l : List (ℕ × X)). IsPermutation l []) (sym (by_parts-nil parts))
      (IsPermutation-refl [])
  whole count parts once (e ∷ log) numbered = IsPermutation-trans _ _ _ (within parts e log (once e.0 numbered.0))
      (IsPermutation-cons e _ _ (whole count parts once log numbered.1))

module _ {S X : Type 0} where
  own_entries : (count : ℕ) (log : List (ℕ × X)) (passes : List (Knowledge S X))
      → AllByRecursion (IsPartOf log count) (map part_of passes)
      → by_parts (map part_of passes) log ≡ flat_map (λ (p : Knowledge S X). p.mine) passes
  own_entries count log [] all = refl
  own_entries count log (p ∷ ps) all = λ i. all.0.mine i ++ own_entries count log ps all.1 i

  all_seen : (count : ℕ) (log : List (ℕ × X)) (passes : List (Knowledge S X))
      → AllByRecursion (IsPartOf log count) (map part_of passes)
      → All (λ (p : Knowledge S X). IsPrefix p.seen log) passes
  all_seen count log [] all = All-nil (λ (x : Knowledge S X). IsPrefix x.seen log)
  all_seen count log (p ∷ ps) all = All-cons (λ (x : Knowledge S X). IsPrefix x.seen log) p ps all.0.seen
      (all_seen count log ps all.1)

  all_mine : (count : ℕ) (log : List (ℕ × X)) (passes : List (Knowledge S X))
      → AllByRecursion (IsPartOf log count) (map part_of passes)
      → All (λ (p : Knowledge S X). entries_by p.number log ≡ p.mine) passes
  all_mine count log [] all = All-nil (λ (x : Knowledge S X). entries_by x.number log ≡ x.mine)
  all_mine count log (p ∷ ps) all = All-cons (λ (x : Knowledge S X). entries_by x.number log ≡ x.mine) p ps all.0.mine
      (all_mine count log ps all.1)

module _ {T S X : Type 0} (stands : T → S → List X → Type 0) (front : ℕ) (lock : Lock S) where
  abbrev size : View S X → ℕ
  size v = length (parts_of v)

  none_counted : (n : ℕ) (parts : List (Part X)) → length parts ≡ 0 → count_of n parts ≡ 0
  none_counted n [] e = refl
  none_counted n (p ∷ ps) e = absurd (omega (arith, e))

  -- the turn is free where one seat without it has all parts
  is_home : (by : ℕ) (own : Part X) (others : List (Part X)) (s : State (Option T) (View S X))
      (k : Kept stands front lock.start lock.passes s) → get_elem? s.views by ≡ some (gathered_view lock.start own others)
      → lock.passes ≤ length (own ∷ others) → IsHome stands lock.start k.log s
  is_home by own others s k at most =
      ⊎_elim
      (λ (home : IsHome stands lock.start k.log s). home)
      (λ (out : IsOut k.log s).
      let v : View S X = gathered_view lock.start own others in
      let apart : out.holder ≢ by = λ same. not_both false refl
      (ap (λ (u : View S X). u.holds)
      (some-injective v out.view (sym at ∙ subst (λ (n : ℕ). get_elem? s.views n ≡ some out.view) same out.there))
      ∙ out.holds) in
      let live : size out.view ≡ suc (length out.view.others) =
      ap (λ o. length (parts_from o (out.view.own ∷ out.view.others)))
      ((k.fits out.holder out.view out.there).live out.holds) in
      absurd (omega (
        arith,
        two_at_most_sum size s.views out.holder by out.view v apart out.there at,
        k.total,
        most,
        live,
      )))
      k.place

  -- each number below the count stands in one of its parts
  each_once : (by : ℕ) (own : Part X) (others : List (Part X)) (s : State (Option T) (View S X))
      (k : Kept stands front lock.start lock.passes s) → get_elem? s.views by ≡ some (gathered_view lock.start own others)
      → lock.passes ≤ length (own ∷ others) → (n : ℕ) → n < lock.passes → count_of n (own ∷ others) ≡ 1
  each_once by own others s k at most n below =
      sym (sum_at_one size (times n) (λ u. none_counted n (parts_of u)) s.views by (gathered_view lock.start own others) at
      (omega (arith, k.total, most))) ∙ k.once n below

  -- what the slot has when the table is closed, and the list that it stands for
  pub closed_slot_ends_in_value : (by : ℕ) (own : Part X) (others : List (Part X)) (passes : List (Knowledge S X)) (words : List ℕ)
      (slots : List (Option T)) (found : Option T)
      → Final (Seen (Kept stands front lock.start lock.passes) by (gathered_view lock.start own others)) words slots
      → own ∷ others ≡ map part_of passes → lock.passes ≤ length (own ∷ others) → get_elem? slots 0 ≡ some found
      → (value : T) × (found ≡ Some value) × EndsIn stands lock passes value
  closed_slot_ends_in_value by own others passes words slots found final is most there =
      let s = final.0 in
      let k : Kept stands front lock.start lock.passes s = final.1.0 in
      let home : IsHome stands lock.start k.log s = is_home by own others s k final.1.1 most in
      let fits : AllByRecursion (IsPartOf k.log lock.passes) (map part_of passes) =
      subst (λ (l : List (Part X)). AllByRecursion (IsPartOf k.log lock.passes) l) is
      (k.fits by (gathered_view lock.start own others) final.1.1).parts in
      let once : (n : ℕ) → n < lock.passes → count_of n (map part_of passes) ≡ 1 =
      λ n below. ap (λ (l : List (Part X)). count_of n l) (sym is)
      ∙ each_once by own others s k final.1.1 most n below in
      let slot : get_elem? slots 0 ≡ some (Some home.value) = final.4 0 (Some home.value)
      (ap (λ h. get_elem? h 0) home.home) in (
        home.value,
        some-injective found (Some home.value) (sym there ∙ slot),
        record {
          story = k.log;
          stands_for = home.stands_for;
          seen = all_seen lock.passes k.log passes fits;
          mine = all_mine lock.passes k.log passes fits;
          whole = subst (λ (l : List (ℕ × X)). IsPermutation l k.log) (own_entries lock.passes k.log passes fits)
              (whole lock.passes (map part_of passes) once k.log k.numbered);
        },
      )

  -- the same, by the seat that the last pass had and those that were left
  pub ends_with : (by : ℕ) (all first : View S X) (left passes : List (Knowledge S X)) (pass : Knowledge S X)
      (words : List ℕ) (slots : List (Option T)) (found : Option T)
      → Final (Seen (Kept stands front lock.start lock.passes) by all) words slots
      → all ≡ gathered_view lock.start all.own all.others → all.own ∷ all.others ≡ map part_of
      left ++ first.own ∷ first.others
      → first.own ≡ part_of pass → first.others ≡ [] → passes ≡ left ++ pass ∷ [] → lock.passes ≤ length passes
      → get_elem? slots 0 ≡ some found
      → (value : T) × (found ≡ Some value) × EndsIn stands lock passes value
  ends_with by all first left passes pass words slots found final seat parts own alone is most there =
      let whole_list : all.own ∷ all.others ≡ map part_of passes =
      parts ∙ (λ i. map part_of left ++ own i ∷ alone i) ∙ parts_shift passes left pass [] is
      ∙ append-nil (map part_of passes) in
      closed_slot_ends_in_value by all.own all.others passes words slots found
      (subst (λ (v : View S X). Final (Seen (Kept stands front lock.start lock.passes) by v) words slots) seat
      final) whole_list
      (omega (arith, most, ap length whole_list, length-map passes part_of)) there
