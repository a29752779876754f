use Rattle.std.proofs.Common.{◌≡◌, ◌≤◌, take, length}
use Rattle.vote_terms.specs.Held.{held}
use Rattle.vote_rehearsal.specs.{Authorities.members_of, Casting.cast_votes}
use Rattle.vote_rehearsal.proofs.casting.held_votes.Given as goal

abbrev pub invariant-voters : goal.invariant-voters
invariant-voters l = record {
  held_are : l.accepted.votes ≡ held (cast_votes l.relays (members_of l.voters) (take l.voter-index l.voters));
  room : l.accepted.room ≡ length l.voters;
  few : length l.accepted.votes ≤ l.voter-index;
}
