-- How serving ends.
use Rattle.std.specs.Prelude.{◌≡◌, ◌⊎◌, ◌<◌, ◌≤◌, ℕ, Bool, true, List, All, length, take, slice_index_or, Option}
use Rattle.std.specs.Io.KnownBytes.{Appends}
use Rattle.dir_bytes.specs.Causes.{Rose}
use Rattle.key_port.specs.Answers.{Rules}
use Rattle.vote_pool.specs.Pools.{Pooled}
use Rattle.period_terms.specs.declared.state.State.{State}
use Rattle.serve_work.specs.{Reports.report_text, declared.serving.Served.Served, Workers.HaveWorked}
use Rattle.gate_workers.specs.declared.running.Ran.{Ran}
use Rattle.gate_workers.specs.declared.running.Ran.TheVariants as ran
use Rattle.serve_board.specs.Boards.{Locks, Parts, IsAt, Leaves}
use Rattle.serve_work.specs.declared.serving.Served.TheVariants as served

-- The report on a state was written whole; or there was no memory, and nothing was written; or a front of it was
-- written, and the sink's count of faults rose.
abbrev pub Reports : Option (List ℕ) → Option (List ℕ) → ℕ → ℕ → State → Served → Type 0
Reports old new before now state served.Whole = Appends old new (report_text state) × (now ≡ before)
Reports old new before now state served.NoMemory = (new ≡ old) × (now ≡ before)
Reports old new before now state served.WriteFault =
    (sent : ℕ) × Appends old new (take sent (report_text state)) × Rose before now
Reports old new before now state served.GateFault = ⊥

-- as many clocks, verifiers and passes as gates
abbrev pub AreAsMany : {G C V P : Type 0} → List G → List C → List V → List P → Type 0
AreAsMany gates clocks verifiers passes =
    (length clocks ≡ length gates) × (length verifiers ≡ length gates) × (length passes ≡ length gates)

-- no verifier's count of faults fell, each by its place
abbrev pub HaveFailedOn : {V : Type 0} → (V → ℕ) → List V → List V → Type 0
HaveFailedOn {V} faults before now =
    (i : ℕ) (d : V) → i < length before → faults (slice_index_or before i d) ≤ faults (slice_index_or now i d)

-- The passes of the board have ended, as many as began and each come to this from the one in its place; the state and
-- the pool are what they left, and the state is such.
pub record LeavesBoard (rules : Rules) (board : Locks) (HasDone : Parts → Parts → Type 0) (began : List Parts)
    (IsSuch : State → Type 0) : Type 0 where
  pub ended : List Parts
  pub left : State
  pub kept : Pooled
  pub at : All (IsAt board) ended
  pub count : length ended ≡ length began
  pub worked : HaveWorked HasDone began ended
  pub leaves : Leaves rules board ended left kept
  pub such : IsSuch left

module _ {G : Type 0} (faults : G → ℕ) (gates gates' : List G) where
  -- The count of faults of some gate rose.
  pub record SomeRose : Type 0 where
    pub place : ℕ
    pub gate : G
    pub gate_then : G
    pub within : place < length gates
    pub was : gate ≡ slice_index_or gates place gate
    pub is : gate_then ≡ slice_index_or gates' place gate_then
    pub rose : Rose (faults gate) (faults gate_then)

-- Each gate's last answer was that it is closed.
abbrev pub EachClosed : {G : Type 0} → (G → Bool) → List G → Type 0
EachClosed {G} closed gates = All (λ (g : G). closed g ≡ true) gates

module _ {G : Type 0} (faults : G → ℕ) (closed : G → Bool) (gates gates' : List G) where
  -- How the gates were worked: some gate failed, or each gate's last answer was that it is closed.
  abbrev pub GatesRan : Ran → Type 0
  GatesRan ran.Deaf = SomeRose faults gates gates'
  GatesRan ran.Failed = SomeRose faults gates gates'
  GatesRan ran.Closed = EachClosed closed gates'

  module _ (rules : Rules) (board : Locks) (HasDone : Parts → Parts → Type 0) (began : List Parts)
      (old new : Option (List ℕ)) (before now : ℕ) where
    -- All gates were closed, and the state that the board left is reported so.
    abbrev pub ReportsLeft : Served → Type 0
    ReportsLeft result =
        EachClosed closed gates'
        × LeavesBoard rules board HasDone began (λ left. Reports old new before now left result)

    -- nothing was written
    abbrev pub WritesNone : Type 0
    WritesNone = (new ≡ old) × (now ≡ before)

    -- The state that the board left is reported all the same, whole or not.
    abbrev pub ReportsSo : Type 0
    ReportsSo = (told : Served) × LeavesBoard rules board HasDone began (λ left. Reports old new before now left told)

    -- How serving ends: where all gates were closed, with the report, whole or not; where a gate failed, with that report or
    -- none; or for want of memory.
    abbrev pub Serves : Served → Type 0
    Serves served.Whole = ReportsLeft served.Whole
    Serves served.WriteFault = ReportsLeft served.WriteFault
    Serves served.NoMemory = WritesNone
    Serves served.GateFault = SomeRose faults gates gates' × (WritesNone ⊎ ReportsSo)
