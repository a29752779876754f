use Rattle.std.proofs.Common.{◌≡◌, take}
use Rattle.serve_answers.specs.Documents.{certificates_of}
use Rattle.serve_answers.proofs.keys.certificates.Given as goal

-- the certificates of the votes so far
abbrev pub invariant-votes : goal.invariant-votes
invariant-votes l = l.out.items ≡ certificates_of (take l.i l.held.votes)
