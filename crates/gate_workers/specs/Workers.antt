-- How workers end.
use Rattle.std.specs.Prelude.{◌≡◌, ◌≢◌, ◌≤◌, ◌<◌, ℕ, Bool, true, false, List, All, length, slice_index_or}
use Rattle.dir_bytes.specs.Causes.{Rose}
use Rattle.gate_workers.specs.declared.{running.Ran.Ran, worker.{End.End, Worker.Worker}}
use Rattle.gate_workers.specs.declared.running.Ran.TheVariants as ran
use Rattle.gate_workers.specs.declared.worker.End.TheVariants as ends

-- A worker ended where its gate was closed, or where its gate's count of faults rose.
abbrev pub Ends : ℕ → ℕ → Bool → End → Type 0
Ends before now closed ends.Working = ⊥
Ends before now closed ends.Closed = closed ≡ true
Ends before now closed ends.Fault = Rose before now

-- A worker has ended before it began only where its gate's count of faults rose.
abbrev pub Listens : ℕ → ℕ → End → Type 0
Listens before now ends.Working = Unit {0}
Listens before now ends.Closed = ⊥
Listens before now ends.Fault = Rose before now

-- whether a worker ended by a fault of its gate
abbrev pub AnyFault : {G K : Type 0} → Bool → List (Worker G K) → Type 0
AnyFault {G} {K} true workers =
    (i : ℕ) × (w : Worker G K) × (i < length workers) × (w ≡ slice_index_or workers i w) × (w.end ≡ ends.Fault)
AnyFault {G} {K} false workers = All (λ (w : Worker G K). w.end ≢ ends.Fault) workers

module _ {G K : Type 0} (faults : G → ℕ) (closed : G → Bool) (workers workers' : List (Worker G K)) where
  -- The count of faults of some worker's gate rose.
  pub record GateRose : Type 0 where
    pub place : ℕ
    pub worker : Worker G K
    pub worker_then : Worker G K
    pub within : place < length workers
    pub was : worker ≡ slice_index_or workers place worker
    pub is : worker_then ≡ slice_index_or workers' place worker_then
    pub rose : Rose (faults worker.gate) (faults worker_then.gate)

  -- How the workers ran: a gate failed, or each gate's last answer was that it is closed.
  abbrev pub RanTo : Ran → Type 0
  RanTo ran.Deaf = GateRose
  RanTo ran.Failed = GateRose
  RanTo ran.Closed = All (λ (w : Worker G K). closed w.gate ≡ true) workers'
