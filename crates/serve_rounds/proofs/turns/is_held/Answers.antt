use Rattle.key_port.specs.Answers as keys
use Rattle.serve_rounds.proofs.Adding.{none_more, none_sees}
use Rattle.serve_rounds.proofs.turns.is_held.Goals as goal

pub returns-clause-none : goal.returns-clause-none
returns-clause-none g c = λ a none.
    none_more a c.args.pass.now c.ask-reply.new.pass none
    (none_sees (keys.rules g.V.Verifier.may_accept g.V.Verifier.may_refuse) c.args.board.now c.args.pass.now
    c.ask-reply.new.pass _ _ c.ask-reply.ensures.reading)
