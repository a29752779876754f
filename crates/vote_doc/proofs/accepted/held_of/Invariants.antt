use Rattle.std.proofs.Common.{◌≡◌, drop}
use Rattle.vote_terms.specs.Held.{vote_of}
use Rattle.vote_doc.proofs.accepted.held_of.Given as goal

abbrev pub invariant-votes : goal.invariant-votes
invariant-votes l = vote_of (drop l.held-index l.votes) l.authority ≡ vote_of l.fn.votes l.authority
