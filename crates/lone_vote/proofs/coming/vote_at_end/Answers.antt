use Rattle.std.proofs.Common.{subst}
use Rattle.lone_vote.{specs.{declared.coming.Known.Known, Coming.IsKnown}, proofs.KnownVotes.{found_whole, none_at_end}}
use Rattle.lone_vote.proofs.KnownVotes.{none_whole, open_none}
use Rattle.lone_vote.proofs.coming.vote_at_end.Goals as goal

pub returns-in-Coming : goal.returns-in-Coming
returns-in-Coming c =
    λ bytes known. open_none bytes (subst (λ (k : Known). IsKnown bytes k) c.in-Coming.is known).1

pub returns-then-is_lines : goal.returns-then-is_lines
returns-then-is_lines c =
    λ bytes known.
    found_whole bytes c.in-Whole.vote c.in-Whole.behind c.is_lines.result
    (subst (λ (k : Known). IsKnown bytes k) c.in-Whole.is known) c.is_lines.ensures c.if-is_lines.true

pub returns-in-Whole : goal.returns-in-Whole
returns-in-Whole c =
    λ bytes known.
    none_whole bytes c.in-Whole.vote c.in-Whole.behind c.is_lines.result
    (subst (λ (k : Known). IsKnown bytes k) c.in-Whole.is known) c.is_lines.ensures c.if-is_lines.false

pub returns : goal.returns
returns c =
    λ bytes known. none_at_end bytes (subst (λ (k : Known). IsKnown bytes k) c.in-Other.is known)
