use Rattle.std.proofs.Common.{◌≡◌, ◌<◌, ◌≤◌, ap, sym, ◌∙◌, subst, arith, Some}
use Rattle.period_terms.specs.declared.stage.Stage.TheVariants as stage
use Rattle.period_terms.specs.{declared.state.State.State, States.change}
use Rattle.period_terms.specs.declared.change.ChangeKind.TheVariants as kind
use Rattle.period_core.{specs.Standing.stage_changes, proofs.Standings.{few_ns, few_micro, room_to_go_on}}
use Rattle.period_core.proofs.Standings.{with_own_stands}
use Rattle.period_core.proofs.state.PeriodState.hold_own.Goals as goal

pub put_line-requires : goal.put_line-requires
put_line-requires g c = omega (arith, few_ns _ c.self.invariant.0, c.self.invariant.2)

pub put_line-requires-2 : goal.put_line-requires-2
put_line-requires-2 g c = omega (arith, few_micro _ c.self.invariant.0, c.self.invariant.3)

pub add-requires-clause-room : goal.add-requires-clause-room
add-requires-clause-room g c =
    let at = subst (λ (s : State). s.stage ≡ stage.Computed) (sym c.self.view_is) c.requires.stage in
    omega (arith, room_to_go_on _ c.self.invariant.0 (omega (arith, ap stage_changes at)), c.self.invariant.4)

pub invariant_of-self : goal.invariant_of-self
invariant_of-self g c =
    let at = subst (λ (s : State). s.stage ≡ stage.Computed) (sym c.self.view_is) c.requires.stage in
    let ns = subst (λ (s : State). c.args.ns.identity ≡ s.own) (sym c.self.view_is) c.requires.ns in
    let microdesc = subst (λ (s : State). c.args.microdesc.identity ≡ s.own) (sym c.self.view_is) c.requires.microdesc
    in (
      rw (
        c.put_line.ensures.lines,
        c.put_line-2.ensures.lines,
        c.add.ensures.front,
        c.add.ensures.base,
        c.add.ensures.changes,
      ) (with_own_stands _ c.args.ns c.args.microdesc _ c.args.digests (c.change-change.ensures
          ∙ ap (λ (s : State). change kind.Sign (Some c.self.inside.own) s.valid_after c.args.digests)
          (sym c.self.view_is))
          c.requires.digests c.self.invariant.0 at ns microdesc),
      c.self.invariant.1,
      omega (arith, c.put_line.ensures.capacity, c.self.invariant.2),
      omega (arith, c.put_line-2.ensures.capacity, c.self.invariant.3),
      omega (
        arith,
        c.add.ensures.capacity,
        c.self.invariant.4,
      ),
    )
