use Rattle.std.proofs.Common.{ap, refl, rules, ◌≡◌}
use Rattle.daemon_words.specs.declared.stop.Stop.TheVariants as stop
use Rattle.exit_status.specs.declared.status.Refusal.{Refusal}
use Rattle.exit_status.specs.declared.status.Status.TheVariants as status
use Rattle.authority_daemon.{specs.{Commands.may, Moments.telling_of}, proofs.ServedRuns.{first_rose, first_told}}
use Rattle.authority_daemon.proofs.ServedRuns.{has_refused, has_served, none_served}
use Rattle.authority_daemon.proofs.serving.run_serving.Goals as goal

pub returns-in-Ok-serve_station-clause-run : goal.returns-in-Ok-serve_station-clause-run
returns-in-Ok-serve_station-clause-run g c =
    has_served (may g.V.Verifier.may_accept g.V.Verifier.may_refuse g.N.Signer.may_give g.N.Signer.steps)
    (telling_of g.C.Clock.last g.C.Clock.asks g.G.Gate.faults g.G.Gate.closed) c.args.wanted.now _ _ c.in-Ok.bytes _
    c.in-Ok.ensures.whole (ap g.S.Source.left c.in-Ok-serve_station.ensures.untouched.0) (search rules)
    c.in-Ok-from_vec.input (search rules) _ c.in-Ok-serve_station.served _ c.status_of.ensures
    c.in-Ok-serve_station.ensures.answer

pub returns-clause-run : goal.returns-clause-run
returns-clause-run g c =
    let stopped : c.in-Err-Refused.field-0 ≡ stop.Refused c.in-Err-Refused.why = search rules in
    has_refused (may g.V.Verifier.may_accept g.V.Verifier.may_refuse g.N.Signer.may_give g.N.Signer.steps)
    (telling_of g.C.Clock.last g.C.Clock.asks g.G.Gate.faults g.G.Gate.closed) c.args.wanted.now _ _ c.in-Ok.bytes _
    c.in-Ok.ensures.whole (ap g.S.Source.left c.in-Err-Refused.ensures.untouched.0) (search rules)
    c.in-Ok-from_vec.input (search rules) _ c.in-Err-Refused.field-0 c.in-Err-Refused.why _ stopped
    (ap (λ (r : Refusal). status.Refused r) c.by_serve.ensures)
    c.in-Err-Refused.ensures.answer
    (none_served _ _ _ _ _ g.K.Sink.written g.V.Verifier.faults _ c.serve_station.new.outside
    c.in-Err-Refused.field-0 _ c.in-Err-Refused.ensures.refused c.in-Err-Refused.ensures.answer refl refl refl refl refl
    refl refl refl refl refl)
    (ap g.K.Sink.faults c.in-Err-Refused.ensures.refused.sink)
    (first_rose g.V.Verifier.faults _ _ c.in-Err-Refused.field-0 c.in-Err-Refused.ensures.refused.verifiers)
    (first_told g.V.Verifier.faults _ _ c.in-Err-Refused.field-0 c.in-Err-Refused.ensures.refused.verifiers)
