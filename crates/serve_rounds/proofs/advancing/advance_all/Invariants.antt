use Rattle.std.proofs.Common.{◌≡◌, ◌≤◌, true}
use Rattle.key_port.specs.Answers.{rules}
use Rattle.serve_board.specs.Boards.{IsAt}
use Rattle.serve_rounds.specs.{Duties.IsAdvance, Exchanges.HasSigned, Spans.Adds}
use Rattle.serve_rounds.proofs.advancing.advance_all.Given as goal

abbrev pub invariant-steps : goal.invariant-steps
invariant-steps g l = record {
  can : (goal.iterator-steps g).can_next l.iterator';
  finite : (goal.iterator-steps g).is_finite l.iterator';
  at : IsAt l.board l.pass;
  adds : Adds
      (IsAdvance g.N.Signer.may_give (rules g.V.Verifier.may_accept g.V.Verifier.may_refuse) l.board l.now) l.fn.pass
      l.pass;
  signed : l.signed ≡ true → HasSigned l.fn.pass l.pass;
  signer : g.N.Signer.faults l.fn.signer ≤ g.N.Signer.faults l.signer;
  verifier : g.V.Verifier.faults l.fn.verifier ≤ g.V.Verifier.faults l.verifier;
}
