use Rattle.std.proofs.{Common.{◌≡◌, Err, ap}, lemmas.Result.err_from_is_err_and}
use Rattle.key_port.specs.Answers.{rules as verifier_rules}
use Rattle.daemon_words.specs.declared.stop.Stop.TheVariants.{Refused}
use Rattle.serve_command.{specs.declared.refusal.ServeRefusal.TheVariants.Verifier, proofs.Starts.is_ready}
use Rattle.serve_command.proofs.Stopping.{no_start, no_station}
use Rattle.serve_command.proofs.ready.prepare.Goals as goal

pub returns-in_err-station-clause-stops : goal.returns-in_err-station-clause-stops
returns-in_err-station-clause-stops g c =
    let p = err_from_is_err_and c.from_residual.result c.from_residual.ensures.1 in
    rw (p.1, p.2)
    (no_station (verifier_rules g.V.Verifier.may_accept g.V.Verifier.may_refuse) c.args.measures c.args.newest
    c.args.now
    c.args.bytes.now c.in_err-station.field-0.0 c.in_err-station.ensures.stops)

pub returns-in_err-operator-clause-stops : goal.returns-in_err-operator-clause-stops
returns-in_err-operator-clause-stops g c =
    let p = err_from_is_err_and c.from_residual-in_err-operator.result
    c.from_residual-in_err-operator.ensures.1 in
    rw (p.1, p.2)
    (no_start (verifier_rules g.V.Verifier.may_accept g.V.Verifier.may_refuse) c.args.measures c.args.newest c.args.now
    c.args.bytes.now c.in_ok-station.station c.in_ok-station.used c.in_err-operator.field-0.0
    c.in_ok-station.ensures.read.stands c.in_err-operator.ensures.stops)

pub returns-in_err-operator-clause-told : goal.returns-in_err-operator-clause-told
returns-in_err-operator-clause-told g c =
    let p = err_from_is_err_and c.from_residual-in_err-operator.result
    c.from_residual-in_err-operator.ensures.1 in
    rw (p.1, p.2) (λ rose.
    let why : c.in_err-operator.field-0.0 ≡ Refused Verifier = cc (c.in_err-operator.ensures.told rose) in
    ap (λ w. Err w) why)

pub returns-clause-told : goal.returns-clause-told
returns-clause-told g c = λ rose. absurd (cc (c.in_ok-operator.ensures.told rose))

pub returns-clause-ready : goal.returns-clause-ready
returns-clause-ready g c =
    is_ready (verifier_rules g.V.Verifier.may_accept g.V.Verifier.may_refuse) c.args.measures c.args.newest c.args.now
    c.args.bytes.now c.args.workers c.in_ok-station.station c.in_ok-station.used
    c.in_ok-operator.operator c.in_ok-operator.board c.in_ok-operator.passes.items c.in_ok-station.ensures.read c.in_ok-operator.ensures.opened
