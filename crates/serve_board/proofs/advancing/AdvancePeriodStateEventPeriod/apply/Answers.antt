use Rattle.std.proofs.Common.{◌≡◌, rules}
use Rattle.key_port.specs.Answers as keys
use Rattle.serve_board.proofs.Moving.{moves_there, moves_more}
use Rattle.serve_board.proofs.advancing.AdvancePeriodStateEventPeriod.apply.Goals as goal

pub returns-clause-answer : goal.returns-clause-answer
returns-clause-answer g c =
    rw c.of.ensures (λ start story stands. (
      record {
        moves = moves_there g.N.Signer.may_give (keys.rules g.V.Verifier.may_accept g.V.Verifier.may_refuse) _ _ _
            start story _ stands c.advance-answer.ensures.step;
        signer_is = record {
          cause = c.advance-answer.ensures.signer_fault;
          kept = c.advance-answer.ensures.signer_faults;
        };
        verifier_is = record {
          cause = c.advance-answer.ensures.verifier_fault;
          kept = c.advance-answer.ensures.verifier_faults;
        };
      },
      search rules,
      search rules,
    ))

pub returns-clause-story : goal.returns-clause-story
returns-clause-story g c =
    rw c.of.ensures (λ start story stands.
    moves_more g.N.Signer.may_give (keys.rules g.V.Verifier.may_accept g.V.Verifier.may_refuse) _ _ _ start story _
    stands c.advance-answer.ensures.step c.advance-answer.ensures.err)
