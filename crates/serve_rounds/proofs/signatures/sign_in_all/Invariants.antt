use Rattle.key_port.specs.Answers.{rules}
use Rattle.serve_board.specs.Boards.{IsAt, Parts}
use Rattle.serve_rounds.specs.{Duties.IsGathered, Spans.{Adds, Anywhere}}
use Rattle.serve_rounds.proofs.signatures.sign_in_all.Given as goal

abbrev pub invariant-signatures : goal.invariant-signatures
invariant-signatures g l = record {
  at : IsAt l.board l.pass;
  adds : (a : Parts)
      → Adds (Anywhere (IsGathered (rules g.V.Verifier.may_accept g.V.Verifier.may_refuse))) a l.fn.pass
      → Adds (Anywhere (IsGathered (rules g.V.Verifier.may_accept g.V.Verifier.may_refuse))) a l.pass;
}
