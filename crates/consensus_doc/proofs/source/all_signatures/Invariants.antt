use Rattle.std.proofs.Common.{◌≡◌, ◌++◌, drop}
use Rattle.consensus_doc.specs.Drafts.{all_signatures}
use Rattle.consensus_doc.proofs.source.all_signatures.Given as goal

abbrev pub invariant-taken : goal.invariant-taken
invariant-taken l = l.lines ++ all_signatures l.bytes (drop l.one-index l.taken) ≡ all_signatures l.bytes l.taken
