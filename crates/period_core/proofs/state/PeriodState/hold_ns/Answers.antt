use Rattle.std.proofs.Common.{◌≡◌, ◌<◌, ◌≤◌, true, false, sym, subst, arith, Some, ap, ◌∙◌}
use Rattle.dir_values.specs.Rosters.{has_member}
use Rattle.period_terms.specs.{declared.state.State.State, States.{change, has_line}}
use Rattle.period_terms.specs.declared.change.ChangeKind.TheVariants as kind
use Rattle.period_core.proofs.Standings.{few_ns, room_for_ns, with_ns_stands}
use Rattle.period_core.proofs.state.PeriodState.hold_ns.Goals as goal

pub push_reserved-requires : goal.push_reserved-requires
push_reserved-requires g c = omega (arith, few_ns _ c.self.invariant.0, c.self.invariant.2)

pub add-requires-clause-room : goal.add-requires-clause-room
add-requires-clause-room g c =
    let member = subst (λ (s : State). has_member s.roster c.args.line.identity ≡ true) (sym c.self.view_is)
    c.requires.member in
    let none = subst (λ (s : State). has_line s.ns_lines c.args.line.identity ≡ false) (sym c.self.view_is)
    c.requires.none in
    omega (arith, room_for_ns _ c.args.line c.self.invariant.0 member none, c.self.invariant.4)

pub invariant_of-self : goal.invariant_of-self
invariant_of-self g c =
    let member = subst (λ (s : State). has_member s.roster c.args.line.identity ≡ true) (sym c.self.view_is)
    c.requires.member in
    let none = subst (λ (s : State). has_line s.ns_lines c.args.line.identity ≡ false) (sym c.self.view_is)
    c.requires.none in (
      rw (c.push_reserved.ensures.items, c.add.ensures.front, c.add.ensures.base, c.add.ensures.changes)
          (with_ns_stands _ c.args.line _ c.args.digest (c.change-change.ensures
          ∙ ap (λ (s : State). change kind.Signature (Some c.args.line.identity) s.valid_after c.args.digest)
          (sym c.self.view_is)) c.requires.size c.self.invariant.0 member none),
      c.self.invariant.1,
      omega (arith, c.push_reserved.ensures.capacity, c.self.invariant.2),
      c.self.invariant.3,
      omega (arith, c.add.ensures.capacity, c.self.invariant.4),
    )
