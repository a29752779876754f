use Rattle.std.proofs.{Common.{rules, refl, ap, Err}, lemmas.Result.err_from_is_err_and}
use Rattle.key_port.specs.Answers.{rules as verifier_rules}
use Rattle.serve_command.proofs.{Answering.{has_served, none_started}, Asking.asked_first}
use Rattle.serve_command.proofs.serving.serve_at.Goals as goal

pub returns-in_err-ready-clause-answer : goal.returns-in_err-ready-clause-answer
returns-in_err-ready-clause-answer g c =
    let outside = c.args.outside.now in
    let written = g.K.Sink.written outside.sink in
    let faults = g.K.Sink.faults outside.sink in
    let p = err_from_is_err_and c.from_residual.result c.from_residual.ensures.1 in
    rw (p.1, p.2)
    (none_started (verifier_rules g.V.Verifier.may_accept g.V.Verifier.may_refuse) c.args.wanted.now.bandwidths
    c.args.wanted.now.newest c.args.now c.args.bytes.now g.N.Signer.may_give g.N.Signer.steps g.C.Clock.last
    g.G.Gate.faults g.G.Gate.closed
    outside.gates.items outside.gates.items written written faults faults c.in_err-ready.field-0.0 c.in_err-ready.ensures.stops)

pub returns-in_err-ready-clause-refused : goal.returns-in_err-ready-clause-refused
returns-in_err-ready-clause-refused g c =
    let outside = c.args.outside.now in
    let p = err_from_is_err_and c.from_residual.result c.from_residual.ensures.1 in
    rw (p.1, p.2) (record {
      sink = refl {a = outside.sink};
      signer = refl {a = outside.signer};
      gates = refl {a = outside.gates};
      link = refl {a = outside.link};
      verifiers =
          asked_first g.V.Verifier.faults outside.verifiers.items c.index_mut.result.now
          c.prepare.new.verifier c.in_err-ready.field-0.0 (search rules) c.index_mut.ensures.value
          (λ is. c.in_err-ready.ensures.fault (ap (λ why. Err why) is))
          (λ more. cc (c.in_err-ready.ensures.told more));
    })

pub returns-clause-answer : goal.returns-clause-answer
returns-clause-answer g c =
    let outside = c.args.outside.now in
    let new = c.serve_ready.new.outside in
    has_served (verifier_rules g.V.Verifier.may_accept g.V.Verifier.may_refuse) c.args.wanted.now.bandwidths
    c.args.wanted.now.newest c.args.now c.args.bytes.now g.N.Signer.may_give g.N.Signer.steps g.C.Clock.last
    g.G.Gate.faults g.G.Gate.closed
    outside.gates.items new.gates.items (g.K.Sink.written outside.sink) (g.K.Sink.written new.sink)
    (g.K.Sink.faults outside.sink) (g.K.Sink.faults new.sink) _ c.in_ok-ready.ready.station
    c.in_ok-ready.ready.operator c.in_ok-ready.ready.board c.in_ok-ready.ready.passes.items c.serve_ready.result
    c.in_ok-ready.ensures.ready (search rules) c.serve_ready.ensures.serves
