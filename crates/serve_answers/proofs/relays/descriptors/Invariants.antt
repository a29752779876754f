use Rattle.std.proofs.Common.{◌≡◌, take}
use Rattle.serve_answers.specs.Documents.{descriptors_of}
use Rattle.serve_answers.proofs.relays.descriptors.Given as goal

-- the texts of the descriptors so far
abbrev pub invariant-descriptors : goal.invariant-descriptors
invariant-descriptors g l = l.out.items ≡ descriptors_of (take l.i l.pool.descriptors)
