use Rattle.key_port.specs.Answers.{rules}
use Rattle.serve_answers.proofs.Askings.{asked_goes}
use Rattle.serve_answers.proofs.finding.find.Goals as goal

pub returns-clause-goes : goal.returns-clause-goes
returns-clause-goes g c =
    asked_goes (rules g.V.Verifier.may_accept g.V.Verifier.may_refuse) c.args.board.now c.args.pass.now _ c.args.asked
    c.args.path.now _ c.find_asked.ensures.finds
