use Rattle.std.{proofs.Common.{◌≡◌, ◌++◌, drop}, specs.Prelude.filter}
use Rattle.relay_select.specs.{Walks.members_from, Choices.{belongs_at, belonging_places}}
use Rattle.relay_select.proofs.searching.belonging.Given as goal

abbrev pub invariant-votes : goal.invariant-votes
invariant-votes l =
    l.members.items ++ filter (belongs_at l.votes.votes l.identity.ed) (members_from l.number (drop l.number l.votes.votes) l.identity.rsa)
    ≡ belonging_places l.votes.votes l.identity
