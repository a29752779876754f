use Rattle.std.proofs.Common.{refl}
use Rattle.key_port.specs.Answers as keys
use Rattle.serve_work.{specs.Workers.HasWorked, proofs.Additions.{work_lasts, works_more}}
use Rattle.serve_work.proofs.{Connections.connection_works, Places.comes_more}
use Rattle.serve_work.proofs.attendant.AttendantClerk.serve.Goals as goal

pub returns-clause-comes : goal.returns-clause-comes
returns-clause-comes g c = λ before told.
    let its = keys.rules g.V.Verifier.may_accept g.V.Verifier.may_refuse in
    let me = c.args.self.now in
    let call = c.serve_connection in
    comes_more g.V.Verifier.faults
    (λ by. HasWorked its g.N.Signer.may_give g.N.Signer.steps (g.W.Rules.allows by.rules) by.station g.C.Clock.last
    by.board) _ _ _ before.pass me.pass call.new.pass before.verifier me.verifier call.new.verifier
    (λ by. works_more _ _ (work_lasts its g.N.Signer.may_give g.N.Signer.steps (g.W.Rules.allows by.rules) by.station
    g.C.Clock.last by.board) before.pass me.pass call.new.pass)
    told refl
    (connection_works its g.N.Signer.may_give g.N.Signer.steps (g.W.Rules.allows me.hook.now.rules) me.station.now
    g.C.Clock.last call.new.clock me.board.now g.V.Verifier.steps me.pass call.new.pass
    (record {
      asks = g.C.Clock.asks me.clock;
      asks_then = g.C.Clock.asks call.new.clock;
      last = g.C.Clock.last call.new.clock;
      faults = g.V.Verifier.faults me.verifier;
      faults_then = g.V.Verifier.faults call.new.verifier;
    }) me.verifier call.new.verifier refl _ _ _ _ _ _ _ call.result call.ensures.serves)
    call.ensures.faults
