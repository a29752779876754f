use Rattle.std.proofs.{Common.{◌≡◌, length, ap, ◌∙◌, arith, length-append}, lemmas.List.Elements.{All-same, All-push}}
use Rattle.gate_workers.specs.declared.worker.End.TheVariants.{Working}
use Rattle.serve_work.proofs.Hiring.{all_hired, shift}
use Rattle.serve_work.proofs.staff.hire.Goals as goal

pub gates-preserved : goal.gates-preserved
gates-preserved g c =
    let inv = c.gates.invariant in
    let gate = ap length c.first-gate.ensures.items in
    let clock = ap length c.first-clock.ensures.items in
    let verifier = ap length c.first-verifier.ensures.items in
    let pass = ap length c.first-pass.ensures.items in
    record {
      gates = shift (λ w. w.gate) c.gates.workers.items c.push_reserved.new.self.items _ _ c.gates.gates.items
          c.first-gate.new.all.items c.args.gates.now.items inv.gates c.first-gate.ensures.items c.new.ensures.gate
          c.push_reserved.ensures.items;
      passes = shift (λ w. w.clerk.pass) c.gates.workers.items c.push_reserved.new.self.items _ _
          c.gates.passes.items c.first-pass.new.all.items c.args.passes.now.items inv.passes
          c.first-pass.ensures.items (ap (λ k. k.pass) c.new.ensures.clerk) c.push_reserved.ensures.items;
      verifiers = shift (λ w. w.clerk.verifier) c.gates.workers.items c.push_reserved.new.self.items _ _
          c.gates.verifiers.items c.first-verifier.new.all.items c.args.verifiers.now.items inv.verifiers
          c.first-verifier.ensures.items (ap (λ k. k.verifier) c.new.ensures.clerk) c.push_reserved.ensures.items;
      clocks_left = omega (arith, gate, clock, inv.clocks_left);
      verifiers_left = omega (arith, gate, verifier, inv.verifiers_left);
      passes_left = omega (arith, gate, pass, inv.passes_left);
      hired =
          All-same
          (λ w. (w.end ≡ Working) × (w.clerk.board.now ≡ c.args.board.now) × (w.clerk.hook.now ≡ c.args.hook.now)
          × (w.clerk.station.now ≡ c.args.station.now)) _ _
          c.push_reserved.ensures.items
          (All-push
          (λ w. (w.end ≡ Working) × (w.clerk.board.now ≡ c.args.board.now) × (w.clerk.hook.now ≡ c.args.hook.now)
          × (w.clerk.station.now ≡ c.args.station.now))
          c.gates.workers.items _ inv.hired (
            c.new.ensures.end,
            ap (λ k. k.board.now) c.new.ensures.clerk,
            ap (λ k. k.hook.now) c.new.ensures.clerk,
            ap (λ k. k.station.now) c.new.ensures.clerk,
          ));
      count = omega (
        arith,
        gate,
        ap length c.push_reserved.ensures.items ∙ length-append c.gates.workers.items _,
        inv.count,
      );
      room = omega (arith, c.push_reserved.ensures.capacity, inv.room);
      gate_room = c.first-gate.ensures.capacity ∙ inv.gate_room;
      clock_room = c.first-clock.ensures.capacity ∙ inv.clock_room;
      verifier_room = c.first-verifier.ensures.capacity ∙ inv.verifier_room;
      pass_room = c.first-pass.ensures.capacity ∙ inv.pass_room;
    }

pub returns-clause-gates : goal.returns-clause-gates
returns-clause-gates g c =
    all_hired (λ w. w.gate) c.gates.workers.items c.gates.gates.items c.args.gates.now.items
    (omega (arith, c.gates-test.false, c.len.ensures, c.gates.gates.ok.0)) c.gates.invariant.gates

pub returns-clause-passes : goal.returns-clause-passes
returns-clause-passes g c =
    all_hired (λ w. w.clerk.pass) c.gates.workers.items c.gates.passes.items c.args.passes.now.items
    (omega (arith, c.gates-test.false, c.len.ensures, c.gates.gates.ok.0, c.gates.invariant.passes_left))
    c.gates.invariant.passes

pub returns-clause-verifiers : goal.returns-clause-verifiers
returns-clause-verifiers g c =
    all_hired (λ w. w.clerk.verifier) c.gates.workers.items c.gates.verifiers.items c.args.verifiers.now.items
    (omega (arith, c.gates-test.false, c.len.ensures, c.gates.gates.ok.0, c.gates.invariant.verifiers_left))
    c.gates.invariant.verifiers
