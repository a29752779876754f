use Rattle.std.proofs.Common.{◌≡◌, ◌<◌, ◌≤◌, ap, refl, sym, subst, arith}
use Rattle.period_terms.specs.declared.stage.Stage.TheVariants as stage
use Rattle.period_terms.specs.declared.state.State.{State}
use Rattle.period_core.{specs.Standing.stage_changes, proofs.Standings.{room_to_go_on, staged}}
use Rattle.period_core.proofs.state.PeriodState.give_up.Goals as goal

pub add-requires-clause-room : goal.add-requires-clause-room
add-requires-clause-room g c =
    let at = subst (λ (s : State). s.stage ≡ stage.Frozen) (sym c.self.view_is) c.requires in
    omega (arith, room_to_go_on _ c.self.invariant.0 (omega (arith, ap stage_changes at)), c.self.invariant.4)

pub invariant_of-self : goal.invariant_of-self
invariant_of-self g c =
    let at = subst (λ (s : State). s.stage ≡ stage.Frozen) (sym c.self.view_is) c.requires in (
      rw (c.add.ensures.front, c.add.ensures.base, c.add.ensures.changes)
          (staged _ _ _ stage.Ended _ _ _ c.change-change.ensures refl refl refl c.self.invariant.0
          (omega (arith, ap stage_changes at))),
      c.self.invariant.1,
      c.self.invariant.2,
      c.self.invariant.3,
      omega (
        arith,
        c.add.ensures.capacity,
        c.self.invariant.4,
      ),
    )
