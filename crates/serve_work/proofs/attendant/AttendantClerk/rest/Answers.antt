use Rattle.std.proofs.Common.{refl}
use Rattle.key_port.specs.Answers as keys
use Rattle.serve_work.{specs.Workers.HasWorked, proofs.{Additions.{work_lasts, works_more}, Duties.duties_work}}
use Rattle.serve_work.proofs.Places.{comes_more}
use Rattle.serve_work.proofs.attendant.AttendantClerk.rest.Goals as goal

pub returns-in-Some-clause-comes : goal.returns-in-Some-clause-comes
returns-in-Some-clause-comes g c = λ before told.
    let its = keys.rules g.V.Verifier.may_accept g.V.Verifier.may_refuse in
    let me = c.args.self.now in
    let call = c.duties in
    comes_more g.V.Verifier.faults
    (λ by. HasWorked its g.N.Signer.may_give g.N.Signer.steps (g.W.Rules.allows by.rules) by.station g.C.Clock.last
    by.board) _ _ _ before.pass me.pass call.new.pass before.verifier me.verifier call.new.verifier
    (λ by. works_more _ _ (work_lasts its g.N.Signer.may_give g.N.Signer.steps (g.W.Rules.allows by.rules) by.station
    g.C.Clock.last by.board) before.pass me.pass call.new.pass)
    told refl
    (duties_work its g.N.Signer.may_give g.N.Signer.steps (g.W.Rules.allows me.hook.now.rules) me.station.now
    g.C.Clock.last call.new.clock me.board.now me.pass call.new.pass call.result call.ensures.duties)
    call.ensures.verifier_faults
