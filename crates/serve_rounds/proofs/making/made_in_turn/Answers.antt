use Rattle.key_port.specs.Answers as keys
use Rattle.serve_rounds.proofs.Adding.{none_looks, none_more, text_there}
use Rattle.serve_rounds.proofs.making.made_in_turn.Goals as goal

pub returns-clause-text : goal.returns-clause-text
returns-clause-text g c =
    let given = c.args.given.now in
    let looks = c.look-text.ensures.reading in
    text_there (keys.rules g.V.Verifier.may_accept g.V.Verifier.may_refuse) g.N.Signer.may_give g.N.Signer.steps
    (g.W.Rules.allows given.ruler.now) given.station.now given.board.now c.args.pass.now c.look-text.new.pass
    c.args.valid_after given.moment _ _ looks c.look-text.result.0 looks.takes.right_there.0

pub returns-clause-none : goal.returns-clause-none
returns-clause-none g c = λ a none.
    none_more a c.args.pass.now c.look-text.new.pass none
    (none_looks (keys.rules g.V.Verifier.may_accept g.V.Verifier.may_refuse) c.args.given.now.board.now
    c.args.pass.now c.look-text.new.pass _ _ c.look-text.ensures.reading)

pub returns-clause-verifier : goal.returns-clause-verifier
returns-clause-verifier g c = c.look-text.ensures.reading.takes.right_there.1

pub returns-clause-signer : goal.returns-clause-signer
returns-clause-signer g c = c.look-text.ensures.reading.takes.right_there.2

pub returns-clause-same_verifier : goal.returns-clause-same_verifier
returns-clause-same_verifier g c = c.look-text.ensures.reading.takes.right_there.4

pub returns-clause-same_signer : goal.returns-clause-same_signer
returns-clause-same_signer g c = c.look-text.ensures.reading.takes.right_there.3
