use Rattle.std.proofs.Common.{rules, sym}
use Rattle.key_port.specs.Answers.{rules as verifier_rules}
use Rattle.serve_command.{proofs.Asking.asked_clock, specs.Serving.ServeAnswers}
use Rattle.serve_command.proofs.serving.serve_station.Goals as goal

pub returns-clause-answer : goal.returns-clause-answer
returns-clause-answer g c =
    let outside = c.args.outside.now in
    let new = c.serve_at.new.outside in
    asked_clock g.C.Clock.asks g.C.Clock.last outside.clocks.items c.index_mut.result.now c.now-now.new.self
    new.clocks.items c.now-now.result
    (λ now. ServeAnswers (verifier_rules g.V.Verifier.may_accept g.V.Verifier.may_refuse) g.N.Signer.may_give
    g.N.Signer.steps g.C.Clock.last g.G.Gate.faults g.G.Gate.closed c.args.wanted.now.bandwidths
    c.args.wanted.now.newest now
    c.args.bytes.now outside.gates.items new.gates.items
    (g.K.Sink.written outside.sink) (g.K.Sink.written new.sink) (g.K.Sink.faults outside.sink)
    (g.K.Sink.faults new.sink))
    c.serve_at.result (search rules) c.index_mut.ensures.value c.now-now.ensures.asks (sym c.now-now.ensures.last)
    c.serve_at.ensures.answer c.serve_at.ensures.clocks
