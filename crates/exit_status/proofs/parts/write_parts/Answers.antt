use Rattle.std.{proofs.Common.{List, ℕ, arith, sym, subst, take_all}, specs.{List.flat_map, Io.KnownBytes.Appends}}
use Rattle.exit_status.{specs.Reports.Reports, proofs.Fronts.{whole, front, split_at}}
use Rattle.exit_status.proofs.parts.write_parts.Goals as goal

pub returns-in-Failed : goal.returns-in-Failed
returns-in-Failed g c =
    let failed = c.in-Failed.ensures in
    let old = c.args.errors.now in
    let new = c.write_all.new.sink in
    subst (λ (t : List ℕ). Reports (g.E.Sink.written old) (g.E.Sink.written new) (g.E.Sink.faults old) (g.E.Sink.faults new) t)
    (sym (split_at (λ part. part.now) c.args.parts.now c.loop-part.part-index _ c.loop-part-test.true))
    (front (g.E.Sink.written old) (g.E.Sink.written c.loop-part.errors) (g.E.Sink.written new) (g.E.Sink.faults old) (g.E.Sink.faults new) _ _ _ c.in-Failed.sent c.loop-part.invariant.written failed.0 failed.1 (omega (arith, c.loop-part.invariant.faults, failed.2, failed.3)))

pub returns : goal.returns
returns g c =
    whole _ _ _ _ _ (subst (λ parts. Appends (g.E.Sink.written c.args.errors.now) (g.E.Sink.written c.loop-part.errors) (flat_map (λ part. part.now) parts)) (take_all c.loop-part.part-index c.args.parts.now c.loop-part-test.false) c.loop-part.invariant.written)
