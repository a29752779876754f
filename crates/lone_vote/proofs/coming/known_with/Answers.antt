use Rattle.std.proofs.Common.{subst}
use Rattle.lone_vote.{specs.{declared.coming.Known.Known, Coming.IsKnown}, proofs.KnownVotes.{begins_more, none_more}}
use Rattle.lone_vote.proofs.coming.known_with.Goals as goal

pub returns-in-Whole : goal.returns-in-Whole
returns-in-Whole c =
    λ bytes known.
    begins_more bytes c.args.piece.now c.in-Whole.vote c.in-Whole.behind c.blank_after-behind.result
    (subst (λ (k : Known). IsKnown bytes k) c.in-Whole.is known) c.blank_after-behind.ensures

pub returns-in-Other : goal.returns-in-Other
returns-in-Other c =
    λ bytes known.
    none_more bytes c.args.piece.now (subst (λ (k : Known). IsKnown bytes k) c.in-Other.is known)
