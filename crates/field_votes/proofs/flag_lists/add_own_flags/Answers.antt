use Rattle.std.proofs.Common.{List, ℕ, ap, ◌∙◌}
use Rattle.field_votes.{specs.Private.with_own, proofs.OwnFlags.with_own-as_set}
use Rattle.field_votes.proofs.flag_lists.add_own_flags.Goals as goal

pub returns-clause-ok : goal.returns-clause-ok
returns-clause-ok c = λ listed is.
    c.in_ok-add_own.ensures.ok ∙ ap (λ (set : List (List ℕ)). with_own set) is ∙ with_own-as_set listed
