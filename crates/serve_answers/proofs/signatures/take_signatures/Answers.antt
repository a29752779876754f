use Rattle.std.proofs.lemmas.Result.{IfOk-weaker}
use Rattle.key_port.specs.Answers.{Rules, rules}
use Rattle.checked_sigs.specs.Checks.{Tally, tally_of}
use Rattle.serve_answers.proofs.Signed.{each_offered}
use Rattle.serve_answers.proofs.signatures.take_signatures.Goals as goal

pub returns-in-Ok-clause-takes : goal.returns-in-Ok-clause-takes
returns-in-Ok-clause-takes g c =
    let rules : Rules = rules g.V.Verifier.may_accept g.V.Verifier.may_refuse in
    let report = c.in-Ok.report in
    let tally : Tally = tally_of report.checked report.skipped report.bad in
    IfOk-weaker c.offer_accepted.result _ _
    (λ answer offers. each_offered rules c.args.board.now c.args.pass.now g.V.Verifier.steps
    (g.V.Verifier.faults c.args.verifier.now) (g.V.Verifier.faults c.check_signatures.new.verifier)
    c.args.verifier.now c.check_signatures.new.verifier c.args.body.now c.view.new.pass c.offer_accepted.new.pass
    c.in_ok-found.found c.in-Some.view tally answer c.in-Some.is c.in_ok-found.ensures.reading c.in-Ok.ensures.checked
    offers)
    c.offer_accepted.ensures.offers
