use Rattle.std.proofs.Common.{◌≡◌, take, map}
use Rattle.health_report.specs.Signers.{key_of}
use Rattle.health_report.proofs.signing.keys_of.Given as goal

-- the keys of the votes so far
abbrev pub invariant-votes : goal.invariant-votes
invariant-votes l = l.keys.items ≡ take l.number (map key_of l.votes.votes)
