-- What the gates of workers tell of all gates.
use Rattle.std.proofs.Common.{◌≡◌, ℕ, ◌<◌, List, map, length, sym, ap, ◌∙◌, subst, arith, true, inr}
use Rattle.std.{proofs.lemmas.List.{get_or-map, length-map, Elements.{All-map, All-same}}, specs.Prelude.{All, Bool}}
use Rattle.std.specs.Prelude.{Option, slice_index_or}
use Rattle.key_port.specs.Answers.{Rules}
use Rattle.vote_pool.specs.Pools.{Pooled}
use Rattle.period_terms.specs.declared.state.State.{State}
use Rattle.gate_workers.specs.{declared.{running.Ran.Ran, worker.Worker.Worker}, Workers.{GateRose, RanTo}}
use Rattle.gate_workers.specs.declared.running.Ran.TheVariants as ran
use Rattle.serve_board.specs.Boards.{Locks, Parts, IsAt, Leaves}
use Rattle.serve_work.specs.{declared.serving.Served.Served, Serving.{EachClosed, GatesRan, LeavesBoard, Reports}}
use Rattle.serve_work.specs.{Serving.{Serves, SomeRose}, Workers.HaveWorked}
use Rattle.serve_work.specs.declared.serving.Served.TheVariants as served

module _ {G K : Type 0} (faults : G → ℕ) (closed : G → Bool) (ws ws' : List (Worker G K)) (gates gates' : List G)
    (was : map (λ w. w.gate) ws ≡ gates) (is : gates' ≡ map (λ w. w.gate) ws') (long : length ws' ≡ length ws) where
  each_closed : All (λ (w : Worker G K). closed w.gate ≡ true) ws' → EachClosed closed gates'
  each_closed all =
      All-same (λ g. closed g ≡ true) gates' (map (λ w. w.gate) ws') is
      (All-map (λ g. closed g ≡ true) (λ (w : Worker G K). w.gate) ws' all)

  some_rose : GateRose faults closed ws ws' → SomeRose faults gates gates'
  some_rose rose =
      let gate : Worker G K → G = λ w. w.gate in
      let there : rose.place < length ws' = omega (arith, rose.within, long) in
      record {
        place = rose.place;
        gate = rose.worker.gate;
        gate_then = rose.worker_then.gate;
        within = omega (arith, rose.within, length-map ws gate, ap length was);
        was = subst (λ l. rose.worker.gate ≡ slice_index_or l rose.place rose.worker.gate) was
            (ap gate rose.was ∙ sym (get_or-map gate ws rose.place rose.worker rose.worker.gate rose.within));
        is = subst (λ l. rose.worker_then.gate ≡ slice_index_or l rose.place rose.worker_then.gate) (sym is)
            (ap gate rose.is ∙ sym (get_or-map gate ws' rose.place rose.worker_then rose.worker_then.gate there));
        rose = rose.rose;
      }

  -- how the workers ran is how the gates were worked
  pub gates_ran : (answer : Ran) → RanTo faults closed ws ws' answer → GatesRan faults closed gates gates' answer
  gates_ran ran.Deaf rose = some_rose rose
  gates_ran ran.Failed rose = some_rose rose
  gates_ran ran.Closed all = each_closed all

module _ {G : Type 0} (faults : G → ℕ) (closed : G → Bool) (gates gates' : List G) (rules : Rules) (board : Locks)
    (HasDone : Parts → Parts → Type 0) (began ended : List Parts) (left : State) (kept : Pooled)
    (at : All (IsAt board) ended) (count : length ended ≡ length began) (worked : HaveWorked HasDone began ended)
    (leaves : Leaves rules board ended left kept) (old new : Option (List ℕ)) (before now : ℕ) where
  left_such : (IsSuch : State → Type 0) → IsSuch left → LeavesBoard rules board HasDone began IsSuch
  left_such IsSuch such = record {
    ended = ended;
    left = left;
    kept = kept;
    at = at;
    count = count;
    worked = worked;
    leaves = leaves;
    such = such;
  }

  -- how serving ends where a gate failed behind all that was served
  pub serves_failed : (told : Served) → Reports old new before now left told → SomeRose faults gates gates'
      → Serves faults closed gates gates' rules board HasDone began old new before now served.GateFault
  serves_failed told reports rose = (rose, inr (told, left_such (λ s. Reports old new before now s told) reports))
