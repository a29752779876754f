-- What a pass knows after a turn.
use Rattle.std.proofs.Common.{◌≡◌, ℕ, ◌+◌, List, [], ◌++◌, length, Some, None, Option, false, refl, sym, ap, ◌∙◌, subst}
use Rattle.std.{proofs.{Common.{arith, length-append}, lemmas.List.length-map}, specs.Prelude.option_to_list}
use Rattle.atomic_table.specs.Table.{Me}
use Rattle.period_lock.specs.{declared.rule.{View.View, Part.Part}, Turns.{entries, entries_by, entry_by}, Kept.IsFree}
use Rattle.period_lock.specs.Kept.{IsIdle, IsHolding, HasTaken, seated_view, grown_part}
use Rattle.period_lock.proofs.{Entries.{length-entry_by, entries-entry_by, own_after}, TurnWords.some_is}

module _ {T S X : Type 0} (stands : T → S → List X → Type 0) (start : S) (own : Part X) (e : Option X) (value : T)
    (taken counted given : Me (Option T) (View S X)) where
  -- the pass has its part with all that it has then seen, and the entry
  pub part_after : (t : HasTaken stands start own taken value) → IsHolding start (grown_part e taken.0.own) None counted
      → IsFree start counted.0.own given
      → given ≡ (seated_view start false (grown_part e (record own { seen = t.seen })), [])
  part_after t told free =
      free ∙ ap (λ (m : Me (Option T) (View S X)). (seated_view start false m.0.own, [])) told
      ∙ ap (λ (m : Me (Option T) (View S X)). (seated_view start false (grown_part e m.0.own), [])) t.me_is

  -- the list that the value then stands for
  pub seen_after : (t : HasTaken stands start own taken value) → IsHolding start (grown_part e taken.0.own) None counted
      → entries counted.0.own.seen ≡ entries t.seen ++ option_to_list e
  seen_after t told =
      ap (λ (m : Me (Option T) (View S X)). entries m.0.own.seen) told
      ∙ ap (λ (m : Me (Option T) (View S X)). entries (m.0.own.seen ++ entry_by m.0.own.number e)) t.me_is
      ∙ entries-entry_by t.seen own.number e

  -- what a pass keeps of itself, with a front that counts what it has seen
  pub kept_after : (front_of : S → ℕ) (after : ℕ) (t : HasTaken stands start own taken value)
      → IsHolding start (grown_part e taken.0.own) None counted → IsFree start counted.0.own given
      → after ≡ front_of start + length (entries t.seen ++ option_to_list e)
      → IsIdle given × ((s : S) → given.0.start ≡ Some s → after ≡ front_of s + length given.0.own.seen)
      × (entries_by given.0.own.number given.0.own.seen ≡ given.0.own.mine)
  kept_after front_of after t told free is =
      let part : given ≡ (seated_view start false (grown_part e (record own { seen = t.seen })), []) = part_after t told free in
      subst (λ (m : Me (Option T) (View S X)). IsIdle m
      × ((s : S) → m.0.start ≡ Some s → after ≡ front_of s + length m.0.own.seen)
      × (entries_by m.0.own.number m.0.own.seen ≡ m.0.own.mine)) (sym part) (
        refl,
        λ s begun. subst (λ (z : S). after ≡ front_of z + length (t.seen ++ entry_by own.number e))
            (some_is start s begun)
            (omega (
              arith,
              is,
              length-append (entries t.seen) (option_to_list e),
              length-map t.seen
                  (λ (x : ℕ × X). x.1),
              length-append t.seen (entry_by own.number e),
              length-entry_by own.number e,
            )),
        own_after t.seen own.number e ∙ ap (λ (l : List (ℕ × X)). l ++ entry_by own.number e) t.mine,
      )
