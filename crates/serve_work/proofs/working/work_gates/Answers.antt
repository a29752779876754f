use denote.Param.Send.{sendable}
use Rattle.key_port.specs.Answers as keys
use Rattle.std.proofs.{Common.{rules, arith, ◌≡◌, ◌≤◌, length, map, sym, ap, ◌∙◌}, Crossing.crosses}
use Rattle.std.{proofs.lemmas.List.{length-map, Elements.All-same}, specs.Prelude.slice_index_or}
use Rattle.gate_workers.specs.declared.worker.End.TheVariants.{Working}
use Rattle.serve_work.proofs.{Gates.gates_ran, Additions.works_same, Places.{as_many, by_place, comes_same, done_by}}
use Rattle.serve_work.proofs.{Places.{may_attend, passes_at, workers_at}, Sent.attendant_send, Written.take_whole}
use Rattle.serve_work.specs.Workers.{HasWorked}
use Rattle.serve_work.proofs.working.work_gates.Goals as goal

pub run-ran-requires-send-K : goal.run-ran-requires-send-K
run-ran-requires-send-K g c κs within = search (attendant_send, sendable, crosses) depth 20

pub run-ran-requires-clause-may_work : goal.run-ran-requires-clause-may_work
run-ran-requires-clause-may_work g c = λ lifetimes within i d below.
    let ws = c.deref_mut.result.now in
    let hired =
    All-same
    (λ w. (w.end ≡ Working) × (w.clerk.board.now ≡ c.args.board.now) × (w.clerk.hook.now ≡ c.args.hook.now)
    × (w.clerk.station.now ≡ c.args.station.now)) _ _
    c.deref_mut.ensures.value c.hire-workers.ensures.hired i d below in
    may_attend _ _ _ c.args.board.now _ _ c.args.hook.now _ hired.1 hired.2
    (workers_at (λ w. w.clerk.pass) c.args.board.now ws c.args.passes.now.items
    (ap (λ l. map (λ w. w.clerk.pass) l) c.deref_mut.ensures.value ∙ c.hire-workers.ensures.passes) c.requires.at i d
    below)
    c.requires.hook

pub run-ran-requires-clause-new : goal.run-ran-requires-clause-new
run-ran-requires-clause-new g c = λ lifetimes within i d below.
    (All-same
    (λ w. (w.end ≡ Working) × (w.clerk.board.now ≡ c.args.board.now) × (w.clerk.hook.now ≡ c.args.hook.now)
    × (w.clerk.station.now ≡ c.args.station.now)) _ _
    c.deref_mut.ensures.value c.hire-workers.ensures.hired i d below).0

pub returns-clause-ran : goal.returns-clause-ran
returns-clause-ran g c =
    let ws = c.deref_mut.result.now in
    let ws' = c.run-ran.new.workers in
    let long : length ws' ≡ length ws = search rules in
    let whole =
    take_whole c.hire-workers.result.len ws' _
    (omega (arith, long, ap length c.deref_mut.ensures.value, c.hire-workers.result.ok.0)) in
    gates_ran g.G.Gate.faults g.G.Gate.closed ws ws' c.args.gates.now.items c.dismiss.new.gates.items
    (ap (λ l. map (λ w. w.gate) l) c.deref_mut.ensures.value ∙ c.hire-workers.ensures.gates)
    (c.dismiss.ensures.gates ∙ ap (λ l. map (λ w. w.gate) l) whole) long c.run-ran.result c.run-ran.ensures.ran

pub returns-clause-count : goal.returns-clause-count
returns-clause-count g c =
    let ws = c.deref_mut.result.now in
    let ws' = c.run-ran.new.workers in
    let long : length ws' ≡ length ws = search rules in
    let whole =
    take_whole c.hire-workers.result.len ws' _
    (omega (arith, long, ap length c.deref_mut.ensures.value, c.hire-workers.result.ok.0)) in
    let gates = ap (λ l. map (λ w. w.gate) l) c.deref_mut.ensures.value ∙ c.hire-workers.ensures.gates in (
      as_many (λ w. w.gate) ws ws' c.args.gates.now.items c.dismiss.new.gates.items gates
          (c.dismiss.ensures.gates ∙ ap (λ l. map (λ w. w.gate) l) whole) long,
      c.dismiss.ensures.clocks ∙ ap length whole ∙ long ∙ sym (length-map ws (λ w. w.gate)) ∙ ap length gates
          ∙ sym c.requires.count.0,
      as_many (λ w. w.clerk.verifier) ws ws' c.args.verifiers.now.items c.dismiss.new.verifiers.items
          (ap (λ l. map (λ w. w.clerk.verifier) l) c.deref_mut.ensures.value ∙ c.hire-workers.ensures.verifiers)
          (c.dismiss.ensures.verifiers ∙ ap (λ l. map (λ w. w.clerk.verifier) l) whole) long,
      as_many (λ w. w.clerk.pass) ws ws' c.args.passes.now.items c.dismiss.new.passes.items
          (ap (λ l. map (λ w. w.clerk.pass) l) c.deref_mut.ensures.value ∙ c.hire-workers.ensures.passes)
          (c.dismiss.ensures.passes ∙ ap (λ l. map (λ w. w.clerk.pass) l) whole) long,
    )

pub returns-clause-at : goal.returns-clause-at
returns-clause-at g c =
    let ws = c.deref_mut.result.now in
    let ws' = c.run-ran.new.workers in
    let long : length ws' ≡ length ws = search rules in
    let whole =
    take_whole c.hire-workers.result.len ws' _
    (omega (arith, long, ap length c.deref_mut.ensures.value, c.hire-workers.result.ok.0)) in
    passes_at (λ w. w.clerk.pass) c.args.board.now ws (λ w. w.clerk.board.now) ws' long c.dismiss.new.passes.items
    (c.dismiss.ensures.passes ∙ ap (λ l. map (λ w. w.clerk.pass) l) whole)
    (λ i d below. (All-same
    (λ w. (w.end ≡ Working) × (w.clerk.board.now ≡ c.args.board.now) × (w.clerk.hook.now ≡ c.args.hook.now)
    × (w.clerk.station.now ≡ c.args.station.now)) _ _
    c.deref_mut.ensures.value c.hire-workers.ensures.hired i d below).1)
    (λ i d below.
    ap (λ o. o.board)
    (c.run-ran.ensures.comes i d below (slice_index_or ws i d).clerk
    (comes_same _ _ _ _ _ (works_same _ _ _))).same)
    (λ i d below. (c.run-ran.ensures.may_work i d below).at)

pub returns-clause-worked : goal.returns-clause-worked
returns-clause-worked g c =
    let ws = c.deref_mut.result.now in
    let ws' = c.run-ran.new.workers in
    let long : length ws' ≡ length ws = search rules in
    let whole =
    take_whole c.hire-workers.result.len ws' _
    (omega (arith, long, ap length c.deref_mut.ensures.value, c.hire-workers.result.ok.0)) in
    let its = keys.rules g.V.Verifier.may_accept g.V.Verifier.may_refuse in
    by_place (λ w. w.clerk.pass)
    (HasWorked its g.N.Signer.may_give g.N.Signer.steps (g.W.Rules.allows c.args.hook.now.rules) c.args.station.now
    g.C.Clock.last c.args.board.now) ws ws' c.args.passes.now.items c.dismiss.new.passes.items
    (ap (λ l. map (λ w. w.clerk.pass) l) c.deref_mut.ensures.value ∙ c.hire-workers.ensures.passes)
    (c.dismiss.ensures.passes ∙ ap (λ l. map (λ w. w.clerk.pass) l) whole) long
    (λ i d below.
    let hired =
    All-same
    (λ w. (w.end ≡ Working) × (w.clerk.board.now ≡ c.args.board.now) × (w.clerk.hook.now ≡ c.args.hook.now)
    × (w.clerk.station.now ≡ c.args.station.now)) _ _
    c.deref_mut.ensures.value c.hire-workers.ensures.hired i d below in
    done_by
    (λ by. HasWorked its g.N.Signer.may_give g.N.Signer.steps (g.W.Rules.allows by.rules) by.station g.C.Clock.last
    by.board) _ c.args.board.now _ c.args.hook.now _ c.args.station.now _ _ hired.1 hired.2 hired.3
    (c.run-ran.ensures.comes i d below (slice_index_or ws i d).clerk
    (comes_same _ _ _ _ _ (works_same _ _ _))).worked)

pub returns-clause-verifiers : goal.returns-clause-verifiers
returns-clause-verifiers g c =
    let ws = c.deref_mut.result.now in
    let ws' = c.run-ran.new.workers in
    let long : length ws' ≡ length ws = search rules in
    let whole =
    take_whole c.hire-workers.result.len ws' _
    (omega (arith, long, ap length c.deref_mut.ensures.value, c.hire-workers.result.ok.0)) in
    by_place (λ w. w.clerk.verifier) (λ a b. g.V.Verifier.faults a ≤ g.V.Verifier.faults b) ws ws'
    c.args.verifiers.now.items c.dismiss.new.verifiers.items
    (ap (λ l. map (λ w. w.clerk.verifier) l) c.deref_mut.ensures.value ∙ c.hire-workers.ensures.verifiers)
    (c.dismiss.ensures.verifiers ∙ ap (λ l. map (λ w. w.clerk.verifier) l) whole) long
    (λ i d below.
    (c.run-ran.ensures.comes i d below (slice_index_or ws i d).clerk
    (comes_same _ _ _ _ _ (works_same _ _ _))).verifier_faults)
