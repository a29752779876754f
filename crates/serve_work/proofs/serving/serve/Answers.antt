use Rattle.std.proofs.Common.{refl, subst, ⊎_elim}
use Rattle.serve_work.{specs.Serving.GatesRan, proofs.Gates.serves_failed}
use Rattle.serve_work.proofs.serving.serve.Goals as goal

pub returns : goal.returns
returns g c =
    let worked = c.in-Ok-work_gates.ensures in
    let Ran = GatesRan g.G.Gate.faults g.G.Gate.closed c.args.outside.now.gates.items c.work_gates.new.gates.items in
    record {
      serves = serves_failed g.G.Gate.faults g.G.Gate.closed _ _ _ _ _ _ _ _ _ worked.at worked.count.3 worked.worked
          c.close-state.ensures _ _ _ _ c.report-told.result c.report-told.ensures
          (⊎_elim (λ is. subst Ran is worked.ran) (λ is. subst Ran is worked.ran) c.in-Failed.is);
      count = (worked.count.0, worked.count.1, worked.count.2);
      verifiers = worked.verifiers;
      untouched = (refl, refl);
    }
