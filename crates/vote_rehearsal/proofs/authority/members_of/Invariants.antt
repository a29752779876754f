use Rattle.std.proofs.Common.{◌≡◌, take}
use Rattle.vote_rehearsal.specs.Authorities.{members_of}
use Rattle.vote_rehearsal.proofs.authority.members_of.Given as goal

abbrev pub invariant-authorities : goal.invariant-authorities
invariant-authorities l = l.members.items ≡ members_of (take l.authority-index l.authorities)
