-- The flags that a consensus has of its own, behind those that votes list.
use Rattle.std.proofs.Common.{◌≡◌, ℕ, Bool, true, false, cond, List, [], ◌∷◌, ◌++◌, sym, ap, ◌∙◌}
use Rattle.std.{proofs.lemmas.List.Sums.fold-append, specs.Prelude.codes}
use Rattle.dir_values.{specs.FlagSets.{has_flag, with_flag, as_set}, proofs.Flags.has_flag-as_set}
use Rattle.field_votes.specs.{Flags.with_own_flags, Private.with_own}

own_by : (middle_only : Bool) (flags : List (List ℕ))
    → cond middle_only (with_flag (with_flag (as_set flags) (codes "NoEdConsensus")) (codes "BadExit")) (with_flag (as_set flags) (codes "NoEdConsensus"))
    ≡ as_set (flags ++ codes "NoEdConsensus" ∷ cond middle_only (codes "BadExit" ∷ []) [])
own_by true flags = sym (fold-append with_flag [] flags (codes "NoEdConsensus" ∷ codes "BadExit" ∷ []))
own_by false flags = sym (fold-append with_flag [] flags (codes "NoEdConsensus" ∷ []))

-- a set with its own flags is the set of the list with them
pub with_own-as_set : (flags : List (List ℕ)) → with_own (as_set flags) ≡ as_set (with_own_flags flags)
with_own-as_set flags =
    ap (λ (b : Bool). cond b (with_flag (with_flag (as_set flags) (codes "NoEdConsensus")) (codes "BadExit")) (with_flag (as_set flags) (codes "NoEdConsensus")))
    (has_flag-as_set flags (codes "MiddleOnly"))
    ∙ own_by (has_flag flags (codes "MiddleOnly")) flags
