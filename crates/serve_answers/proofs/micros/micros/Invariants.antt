use Rattle.std.proofs.Common.{◌≡◌, take}
use Rattle.serve_answers.specs.Documents.{micros_with}
use Rattle.serve_answers.proofs.micros.micros.Given as goal

-- the microdescriptors with the digests so far
abbrev pub invariant-asked : goal.invariant-asked
invariant-asked g l = l.out.items ≡ micros_with l.pool.descriptors (take l.digest-index l.asked)
