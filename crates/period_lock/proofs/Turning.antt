-- The steps of a turn keep the one list.
use Rattle.std.proofs.Common.{◌≡◌, ◌≢◌, ℕ, ◌+◌, ◌%◌, ◌^◌, ◌<◌, List, [], ◌∷◌, ◌++◌, length, set, Some, None, Option}
use Rattle.std.proofs.Common.{Bool, true, false, refl, sym, ap, ◌∙◌, subst, ⊎_elim, inl, inr, arith, length-set}
use Rattle.std.{proofs.{Common.{length-append, eqb, eq-eqb}, lemmas.List.append-nil}, specs.Prelude.slice_index}
use Rattle.std.specs.Prelude.{option_to_list}
use mathlib.Core.Option.{some}
use lib.ListN.{get_elem?}
use prog.Atomic.{either}
use Rattle.atomic_table.specs.Table.{State, Me, Act, keeps, takes, gives, rest, carried_after, Valid, Allows, stepped}
use Rattle.atomic_table.proofs.Lists.{at_set, set_again, set_here}
use Rattle.period_lock.specs.{declared.rule.{View.View, Part.Part}, Turns.{entries, entry_by}, Kept.{IsPartOf, Fits}}
use Rattle.period_lock.specs.Kept.{IsHome, IsOut, Kept, Takes, Tries, Counts, Gives, IsFree, IsHolding, seated_view}
use Rattle.period_lock.{specs.Kept.{grown_part, parts_of, times}, proofs.Sums.{sum_same, two_at_most_sum}}
use Rattle.period_lock.proofs.{Entries.{length-entry_by, numbered_after, part_grown}, Views.{not_both, not_true}}
use Rattle.period_lock.proofs.{Views.each_set, TurnWords.{some_is, at_inside, first_set, second_set, first_same}}
use Rattle.period_lock.proofs.TurnWords.{second_same, second_again, small_word, fits_seated, fits_other}

module _ {T S X : Type 0} (stands : T → S → List X → Type 0) (front : ℕ) (start : S) (count : ℕ) where
  -- the turn was free
  take_goes : (by : ℕ) (own : Part X) (s : State (Option T) (View S X)) (k : Kept stands front start count s)
      → IsHome stands start k.log s → get_elem? s.views by ≡ some (seated_view start false own)
      → (w : View S X) × (a : Act (Option T)) × Valid s.homes [] a × Kept stands front start count
      (stepped s 1 1 by [] w a) × Takes stands (seated_view start false own, []) (w, carried_after [] a)
  take_goes by own s k home at =
      let v : View S X = seated_view start false own in
      let mine : IsPartOf k.log count own = (k.fits by v at).parts.0 in
      let w : View S X = seated_view start true (record own { seen = k.log }) in
      let fit : Fits start k.log count w = fits_seated start k.log count true (record own { seen = k.log }) record
      { number = mine.number; seen = ([], append-nil k.log); mine = mine.mine } in (
        w,
        takes 0 (Some home.value),
        rw home.home refl,
        record {
          log = k.log;
          words = omega (arith, length-set s.words 1 1, k.words);
          counted = first_same s.words 1 ∙ k.counted;
          numbered = k.numbered;
          fits = each_set (Fits start k.log count) s.views by w k.fits fit;
          total = sum_same (λ (u : View S X). length (parts_of u)) s.views by v w at refl ∙ k.total;
          once = λ n below. sum_same (times n) s.views by v w at refl ∙ k.once n below;
          place = inr (record {
            word = second_set s.words 1 k.words;
            home = rw home.home refl;
            holder = by;
            view = w;
            there = set_here s.views by w (at_inside s.views by v at);
            holds = refl;
            knows = λ j u e holds. ⊎_elim
                (λ (x : (j ≡ by) × (w ≡ u)). (x.0, sym (ap (λ (y : View S X). y.own.seen) x.1)))
                (λ (x : (j ≢ by) × (get_elem? s.views j ≡ some u)). absurd
                (not_both u.holds (home.nobody j u x.1) holds))
                (at_set s.views by j w u e);
          });
        },
        record {
          value = home.value;
          seen = k.log;
          after_is = refl;
          longer = mine.seen;
          mine = mine.mine;
          stands_for = λ b is. subst (λ (z : S). stands home.value z (entries k.log)) (some_is start b is)
              home.stands_for;
        },
      )

  abbrev SameMe : Me (Option T) (View S X) → Me (Option T) (View S X) → Type 0
  SameMe a b = a ≡ b

  -- the turn was not free
  stay_goes : (by : ℕ) (v : View S X) (s : State (Option T) (View S X)) (k : Kept stands front start count s)
      → IsOut k.log s → get_elem? s.views by ≡ some v
      → (w : View S X) × (a : Act (Option T)) × Valid s.homes [] a × Kept stands front start count
      (stepped s 1 1 by [] w a) × SameMe (w, carried_after [] a) (v, [])
  stay_goes by v s k out at =
      let same_words : set s.words 1 1 ≡ s.words = second_again s.words k.words out.word in
      let same_views : set s.views by v ≡ s.views = set_again s.views by v at in (
        v,
        keeps,
        tt,
        subst (λ (x : List ℕ × List (View S X)). Kept stands front start count record
            { words = x.0; homes = s.homes; views = x.1 }) (λ i. (sym same_words i, sym same_views i)) k,
        refl,
      )

  pub try_allowed : (by : ℕ) (own : Part X) (me : Me (Option T) (View S X)) → IsFree start own me
      → Allows (Kept stands front start count) 1 by me 1 (λ n. either (eqb n 0) 1 n) (Tries stands me)
  try_allowed by own me free = subst
      (λ (m : Me (Option T) (View S X)). Allows (Kept stands front start count) 1 by m 1 (λ n. either (eqb n 0) 1 n)
      (Tries stands m)) (sym free) goes
    where
      goes : Allows (Kept stands front start count) 1 by (seated_view start false own, []) 1 (λ n. either (eqb n 0) 1 n)
          (Tries stands (seated_view start false own, []))
      goes s k one at fits =
          ⊎_elim
          (λ (home : IsHome stands start k.log s). let t = take_goes by own s k home at in rw home.word
          (t.0, t.1, t.2, t.3, t.4))
          (λ (out : IsOut k.log s). let t = stay_goes by (seated_view start false own) s k out at in rw out.word
          (t.0, t.1, t.2, t.3, t.4))
          k.place

  own_times : (n : ℕ) (own : Part X) (holds : Bool) → own.number ≡ n → times n (seated_view start holds own) ≡ 1
  own_times n own holds same = rw (eq-eqb own.number n same) refl

  count_goes : (by : ℕ) (own : Part X) (slot : Option T) (e : Option X) (changes : ℕ)
      (s : State (Option T) (View S X)) (k : Kept stands front start count s) → IsOut k.log s
      → get_elem? s.views by ≡ some (seated_view start true own)
      → changes ≡ length (option_to_list e) → front + length own.seen + changes < 2 ^ 64
      → Kept stands front start count
      (stepped s 0 ((slice_index s.words 0 + changes) % 2 ^ 64) by ((0, slot) ∷ []) (seated_view start true (grown_part e own))
      keeps)
  count_goes by own slot e changes s k out at is room =
      let v : View S X = seated_view start true own in
      let w : View S X = seated_view start true (grown_part e own) in
      let all : own.seen ≡ k.log = (out.knows by v at refl).1 in
      let here : by ≡ out.holder = (out.knows by v at refl).0 in
      let mine : IsPartOf k.log count own = (k.fits by v at).parts.0 in
      let log : List (ℕ × X) = k.log ++ entry_by own.number e in
      let long : length log ≡ length k.log + changes = omega
      (arith, length-append k.log (entry_by own.number e), length-entry_by own.number e, is) in
      let now : slice_index s.words 0 + changes ≡ front + length log = omega (arith, k.counted, long) in
      let small : (slice_index s.words 0 + changes) % 2 ^ 64 ≡ front + length log = small_word
      (slice_index s.words 0 + changes) (front + length log) now (omega (arith, long, ap length all, room)) in
      let fit : Fits start log count w = fits_seated start log count true (grown_part e own)
      (part_grown count k.log e own all mine) in
      record {
        log = log;
        words = omega (arith, length-set s.words 0 ((slice_index s.words 0 + changes) % 2 ^ 64), k.words);
        counted = first_set s.words ((slice_index s.words 0 + changes) % 2 ^ 64) k.words ∙ small;
        numbered = numbered_after count own.number e k.log mine.number k.numbered;
        fits = λ j u here_now. ⊎_elim
            (λ (x : (j ≡ by) × (w ≡ u)). subst (Fits start log count) x.1 fit)
            (λ (x : (j ≢ by) × (get_elem? s.views j ≡ some u)). fits_other start k.log count own.number e u
            (alone_with by own s k at mine.number j u x.0 x.1) (k.fits j u x.1))
            (at_set s.views by j w u here_now);
        total = sum_same (λ (u : View S X). length (parts_of u)) s.views by v w at refl ∙ k.total;
        once = λ n below. sum_same (times n) s.views by v w at refl ∙ k.once n below;
        place = inr (record {
          word = second_same s.words ((slice_index s.words 0 + changes) % 2 ^ 64) ∙ out.word;
          home = out.home;
          holder = by;
          view = w;
          there = set_here s.views by w (at_inside s.views by v at);
          holds = refl;
          knows = λ j u there holds. ⊎_elim
              (λ (x : (j ≡ by) × (w ≡ u)). (
                x.0,
                sym (ap (λ (y : View S X). y.own.seen) x.1)
                    ∙ ap (λ (l : List (ℕ × X)). l ++ entry_by own.number e) all,
              ))
              (λ (x : (j ≢ by) × (get_elem? s.views j ≡ some u)). absurd (x.0 ((out.knows j u x.1 holds).0 ∙ sym here)))
              (at_set s.views by j w u there);
        });
      }
    where
      -- no other seat has a part of this number
      alone_with : (by : ℕ) (own : Part X) (s : State (Option T) (View S X)) (k : Kept stands front start count s)
          → get_elem? s.views by ≡ some (seated_view start true own) → own.number < count
          → (j : ℕ) (u : View S X) → j ≢ by → get_elem? s.views j ≡ some u → times own.number u ≡ 0
      alone_with by own s k at below j u apart there =
          omega (
            arith,
            two_at_most_sum (times own.number) s.views j by u (seated_view start true own) apart there at,
            own_times own.number own true refl,
            k.once own.number below,
          )

  pub count_allowed : (by : ℕ) (own : Part X) (slot : Option T) (e : Option X) (changes : ℕ)
      (me : Me (Option T) (View S X)) → IsHolding start own slot me → changes ≡ length (option_to_list e)
      → front + length own.seen + changes < 2 ^ 64
      → Allows (Kept stands front start count) 1 by me 0 (λ n. (n + changes) % 2 ^ 64)
      (λ found after. Counts e me after)
  count_allowed by own slot e changes me holding is room = subst
      (λ (m : Me (Option T) (View S X)). Allows (Kept stands front start count) 1 by m 0 (λ n. (n + changes) % 2 ^ 64)
      (λ found after. Counts e m after)) (sym holding) goes
    where
      goes : Allows (Kept stands front start count) 1 by (seated_view start true own, (0, slot) ∷ []) 0
          (λ n. (n + changes) % 2 ^ 64) (λ found after. Counts e (seated_view start true own, (0, slot) ∷ []) after)
      goes s k one at fits =
          ⊎_elim
          (λ (home : IsHome stands start k.log s). absurd
          (not_both true (home.nobody by (seated_view start true own) at) refl))
          (λ (out : IsOut k.log s).
          (seated_view start true (grown_part e own), keeps, tt, count_goes by own slot e changes s k out at is room, refl))
          k.place

  give_goes : (by : ℕ) (own : Part X) (value : T) (s : State (Option T) (View S X))
      (k : Kept stands front start count s) → IsOut k.log s → get_elem? s.views by ≡ some (seated_view start true own)
      → stands value start (entries own.seen)
      → Kept stands front start count (stepped s 1 0 by ((0, Some value) ∷ []) (seated_view start false own) gives)
  give_goes by own value s k out at meets =
      let v : View S X = seated_view start true own in
      let w : View S X = seated_view start false own in
      let all : own.seen ≡ k.log = (out.knows by v at refl).1 in
      let here : by ≡ out.holder = (out.knows by v at refl).0 in
      let fit : Fits start k.log count w = fits_seated start k.log count false own (k.fits by v at).parts.0 in
      record {
        log = k.log;
        words = omega (arith, length-set s.words 1 0, k.words);
        counted = first_same s.words 0 ∙ k.counted;
        numbered = k.numbered;
        fits = each_set (Fits start k.log count) s.views by w k.fits fit;
        total = sum_same (λ (u : View S X). length (parts_of u)) s.views by v w at refl ∙ k.total;
        once = λ n below. sum_same (times n) s.views by v w at refl ∙ k.once n below;
        place = inl (record {
          word = second_set s.words 0 k.words;
          value = value;
          home = rw out.home refl;
          stands_for = subst (λ (l : List (ℕ × X)). stands value start (entries l)) all meets;
          nobody = λ j u there. ⊎_elim
              (λ (x : (j ≡ by) × (w ≡ u)). sym (ap (λ (y : View S X). y.holds) x.1))
              (λ (x : (j ≢ by) × (get_elem? s.views j ≡ some u)). not_true u.holds
              (λ h. x.0 ((out.knows j u x.1 h).0 ∙ sym here)))
              (at_set s.views by j w u there);
        });
      }

  pub give_allowed : (by : ℕ) (own : Part X) (value : T) (me : Me (Option T) (View S X))
      → IsHolding start own (Some value) me → stands value start (entries own.seen)
      → Allows (Kept stands front start count) 1 by me 1 (λ _. 0) (λ _ after. Gives me after)
  give_allowed by own value me holding meets = subst
      (λ (m : Me (Option T) (View S X)). Allows (Kept stands front start count) 1 by m 1 (λ _. 0)
      (λ _ after. Gives m after)) (sym holding) goes
    where
      goes : Allows (Kept stands front start count) 1 by (seated_view start true own, (0, Some value) ∷ []) 1 (λ _. 0)
          (λ _ after. Gives (seated_view start true own, (0, Some value) ∷ []) after)
      goes s k one at fits =
          ⊎_elim
          (λ (home : IsHome stands start k.log s). absurd
          (not_both true (home.nobody by (seated_view start true own) at) refl))
          (λ (out : IsOut k.log s). (seated_view start false own, gives, tt, give_goes by own value s k out at meets, refl))
          k.place

  -- after a try that found the turn free
  pub took : (n : ℕ) (before after : Me (Option T) (View S X)) → n ≡ 0 → Tries stands before n after
      → Takes stands before after
  took n before after free tries = rw free at tries

  pub out_slot : (own : Part X) (before after : Me (Option T) (View S X)) → IsFree start own before
      → Takes stands before after → (x : Option T) × (after.1 ≡ (0, x) ∷ rest after.1)
  out_slot own before after free t =
      (Some t.value, slot ∙ ap (λ (l : List (ℕ × Option T)). (0, Some t.value) ∷ l) (sym (ap rest slot)))
    where
      slot : after.1 ≡ (0, Some t.value) ∷ []
      slot = ap (λ (m : Me (Option T) (View S X)). m.1) t.after_is
          ∙ ap (λ (m : Me (Option T) (View S X)). (0, Some t.value) ∷ m.1) free

  -- after the value was put into the slot
  pub put_in : (own : Part X) (before after : Me (Option T) (View S X)) (value : T) → IsHolding start own None before
      → after ≡ (before.0, (0, Some value) ∷ rest before.1) → IsHolding start own (Some value) after
  put_in own before after value holding is = is ∙ ap
      (λ (m : Me (Option T) (View S X)). (m.0, (0, Some value) ∷ rest m.1)) holding
