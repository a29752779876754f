use Rattle.std.proofs.Common.{rules, ◌≡◌, ℕ, ◌≤◌, ◌-◌, ◌∙◌, sym, ap, Bool, true, false, List, reverse, arith}
use Rattle.std.specs.Prelude.{not}
use Rattle.dir_values.specs.declared.port_range.PortRange.{PortRange}
use Rattle.exit_summary.specs.{Policies.accepts_port, PortRanges.{ranges_down, with_ports}}
use Rattle.exit_summary.proofs.Stretches.{pass_step, fail_step, whole}
use Rattle.exit_summary.proofs.ranges.sides_of.Goals.{then-stretch+in_ok-add_ports, else-stretch+in_ok-add_ports-2}
use Rattle.exit_summary.proofs.ranges.sides_of.Goals as goal

pub stretches-preserved : goal.stretches-preserved
stretches-preserved c =
    let passes : ℕ → Bool = accepts_port c.args.items.now in
    let fails : ℕ → Bool = λ port. not (accepts_port c.args.items.now port) in
    let first = c.stretch_to-stretch.result.first in
    let port = c.stretches.port in
    let same = c.stretch_to-stretch.ensures.same in
    let one = c.stretch_to-stretch.ensures.from_one in
    let within = c.stretch_to-stretch.ensures.within in
    let accepted_before = reverse c.stretches.accepted.items in
    let rejected_before = reverse c.stretches.rejected.items in
    let accepted_after = reverse c.if-stretch.accepted.items in
    let rejected_after = reverse c.if-stretch.rejected.items in
    elim c.if-stretch.branch [
      | then-stretch+in_ok-add_ports w ↦
          let added : accepted_after ≡ with_ports first port accepted_before = search rules in
          let kept : rejected_after ≡ rejected_before = search rules in
          let pass : (other : ℕ) → first ≤ other → other ≤ port → passes other ≡ true =
          λ other above below. same other above below ∙ w.if-stretch.true in
          let fail : (other : ℕ) → first ≤ other → other ≤ port → fails other ≡ false =
          λ other above below. ap not (same other above below ∙ w.if-stretch.true) in
          record {
            accepting = pass_step passes first port accepted_before accepted_after one within pass added
                ∙ c.stretches.invariant.accepting;
            rejecting = ap (λ (l : List PortRange). ranges_down fails (first - 1) l) kept
                ∙ fail_step fails first port rejected_before one within fail ∙ c.stretches.invariant.rejecting;
          }
      | else-stretch+in_ok-add_ports-2 w ↦
          let added : rejected_after ≡ with_ports first port rejected_before = search rules in
          let kept : accepted_after ≡ accepted_before = search rules in
          let pass : (other : ℕ) → first ≤ other → other ≤ port → fails other ≡ true =
          λ other above below. ap not (same other above below ∙ w.if-stretch.false) in
          let fail : (other : ℕ) → first ≤ other → other ≤ port → passes other ≡ false =
          λ other above below. same other above below ∙ w.if-stretch.false in
          record {
            accepting = ap (λ (l : List PortRange). ranges_down passes (first - 1) l) kept
                ∙ fail_step passes first port accepted_before one within fail ∙ c.stretches.invariant.accepting;
            rejecting = pass_step fails first port rejected_before rejected_after one within pass added
                ∙ c.stretches.invariant.rejecting;
          }
    ]

pub returns-clause-accepted : goal.returns-clause-accepted
returns-clause-accepted c =
    let passes : ℕ → Bool = accepts_port c.args.items.now in
    let before = reverse c.stretches.accepted.items in
    let none : c.stretches.port ≡ 0 = let h = c.stretches-test.false in omega (arith, h) in
    c.reverse.ensures.items ∙ sym (whole passes before)
    ∙ ap (λ (n : ℕ). ranges_down passes n before) (sym none) ∙ c.stretches.invariant.accepting

pub returns-clause-rejected : goal.returns-clause-rejected
returns-clause-rejected c =
    let fails : ℕ → Bool = λ port. not (accepts_port c.args.items.now port) in
    let before = reverse c.stretches.rejected.items in
    let none : c.stretches.port ≡ 0 = let h = c.stretches-test.false in omega (arith, h) in
    c.reverse-2.ensures.items ∙ sym (whole fails before)
    ∙ ap (λ (n : ℕ). ranges_down fails n before) (sym none) ∙ c.stretches.invariant.rejecting
