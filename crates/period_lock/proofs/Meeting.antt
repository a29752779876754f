-- A seat that gets the parts of others, one pass after the other.
use Rattle.std.proofs.Common.{◌≡◌, List, [], ◌∷◌, ◌++◌, Some, map, false, sym, ap, ◌∙◌, append_assoc}
use Rattle.std.{proofs.lemmas.List.{map-append, Elements.All-pop}, specs.Prelude.All}
use Rattle.atomic_table.specs.Table.{Me}
use Rattle.period_lock.specs.{declared.rule.{View.View, Part.Part}, Turns.Knowledge, Kept.{IsFree, IsIdle}}
use Rattle.period_lock.specs.Kept.{gathered_view, joined_view, part_of}

module _ {S X : Type 0} where
  -- what is said of each pass is said of the last one and of the others
  pub all_but_last : (P : Knowledge S X → Type 0) (old new : List (Knowledge S X)) (pass : Knowledge S X)
      → old ≡ new ++ pass ∷ [] → All P old → All P new × P pass
  all_but_last P old new pass is all = All-pop P old new (Some pass) is all

  -- the parts in hand are one more, and the passes left one less
  pub parts_shift : (old new : List (Knowledge S X)) (pass : Knowledge S X) (parts : List (Part X))
      → old ≡ new ++ pass ∷ [] → map part_of new ++ (part_of pass ∷ parts) ≡ map part_of old ++ parts
  parts_shift old new pass parts is =
      sym (append_assoc (map part_of new) (part_of pass ∷ []) parts)
      ∙ ap (λ (l : List (Part X)). l ++ parts)
      (sym (map-append part_of new (pass ∷ [])) ∙ ap (λ (l : List (Knowledge S X)). map part_of l) (sym is))

module _ {T S X : Type 0} (start : S) where
  -- the seat of a pass of this start
  pub free_of : (me : Me T (View S X)) → IsIdle me → me.0.start ≡ Some start → IsFree start me.0.own me
  free_of me idle begun = idle ∙ ap (λ b. (record { start = b; holds = false; own = me.0.own; others = [] }, [])) begun

  -- a free seat that got the parts of another
  pub joined_is : (own first : Part X) (more : List (Part X)) (me all after : Me T (View S X)) → IsFree start own me
      → all ≡ (gathered_view start first more, []) → after ≡ (joined_view me.0 all.0, me.1)
      → after ≡ (gathered_view start own (first ∷ more), [])
  joined_is own first more me all after free others is = is ∙ (λ i. (joined_view (free i).0 (others i).0, (free i).1))
