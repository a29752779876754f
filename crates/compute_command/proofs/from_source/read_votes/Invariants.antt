use Rattle.std.{proofs.Common.{◌≡◌, ◌+◌, ℕ, List, length}, specs.Io.KnownBytes.Consumes}
use Rattle.key_port.specs.Answers.{rules}
use Rattle.compute_command.specs.{Arriving.IsArriving, Asked.AsksVotes, Checked.TellsFirst}
use Rattle.compute_command.proofs.from_source.read_votes.Given as goal

abbrev pub invariant-pieces : goal.invariant-pieces
invariant-pieces g l = record {
  bytes : List ℕ;
  arrives : IsArriving (rules g.V.Verifier.may_accept g.V.Verifier.may_refuse) l.wanted bytes l.arriving;
  taken : Consumes (g.S.Source.left l.fn.source) (g.S.Source.left l.source) bytes;
  length : l.room + length bytes ≡ l.limit;
  faults : g.S.Source.faults l.source ≡ g.S.Source.faults l.fn.source;
  asked : AsksVotes g.V.Verifier.steps arrives.votes l.arriving.votes.first l.fn.verifier l.verifier;
  verifier : TellsFirst (g.V.Verifier.faults l.fn.verifier) (g.V.Verifier.faults l.verifier) l.arriving.votes.first;
}

abbrev pub decreases-pieces : goal.decreases-pieces
decreases-pieces g l = l.room
