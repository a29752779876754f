use Rattle.std.proofs.Common.{◌≤◌, length}
use Rattle.key_port.specs.Answers.{rules}
use Rattle.serve_board.specs.{Boards.IsAt, Going.Goes}
use Rattle.serve_answers.specs.Handling.{SignsHeld}
use Rattle.serve_answers.proofs.signatures.sign_each.Given as goal

-- each so far was offered, and so many of them are held
abbrev pub invariant-signatures : goal.invariant-signatures
invariant-signatures g l = record {
  signs : SignsHeld (rules g.V.Verifier.may_accept g.V.Verifier.may_refuse) l.board l.fn.pass l.yielded l.pass l.held;
  at : IsAt l.board l.pass;
  goes : Goes l.fn.pass l.pass;
  few : l.held ≤ length l.yielded;
}
