use Rattle.key_port.specs.Answers.{rules}
use Rattle.serve_rounds.proofs.{Adding.adds_advances, Exchanges.signed_here}
use Rattle.serve_rounds.proofs.advancing.advance_once.Goals as goal

pub returns-clause-adds : goal.returns-clause-adds
returns-clause-adds g c = λ a adds.
    adds_advances g.N.Signer.may_give (rules g.V.Verifier.may_accept g.V.Verifier.may_refuse) c.args.board.now
    c.args.now a c.args.pass.now c.advance.new.pass adds c.advance.result c.advance.ensures.event

pub returns-clause-signed : goal.returns-clause-signed
returns-clause-signed g c =
    signed_here g.N.Signer.may_give (rules g.V.Verifier.may_accept g.V.Verifier.may_refuse) c.args.board.now c.args.now
    c.args.pass.now c.advance.new.pass c.advance.result c.advance.ensures.event
