-- What workers may do, and what they come to.
use Rattle.std.specs.Prelude.{◌≡◌, ◌≤◌, ℕ, Bool}
use Rattle.flag_rules.specs.{Rules.KeepsTo, declared.{relay.RelayFacts.RelayFacts, ruling.Ruling.Ruling}}
use Rattle.station_input.specs.declared.facts.StationFacts.{StationFacts}
use Rattle.serve_board.specs.Boards.{Locks, Parts, IsAt}

-- A worker may work: its pass is of the board, and its hook keeps to its rules.
pub record MayAttend {W F : Type 0} (allows : W → RelayFacts → Ruling → Bool) (pre : F → RelayFacts → Type 0)
    (post : F → RelayFacts → Ruling → Type 0) (board : Locks) (pass : Parts) (rules : W) (ask : F) : Type 0 where
  pub at : IsAt board pass
  pub hook : KeepsTo allows pre post rules ask

-- what a worker works by: its board, its operator's rules, and what its station is given
pub record Orders (W : Type 0) : Type 0 where
  pub board : Locks
  pub rules : W
  pub station : StationFacts

-- What a worker comes to: it works by the same orders, its pass has come to this by them, and its verifier has failed no
-- less often.
pub record ComesTo {V W : Type 0} (faults : V → ℕ) (HasDone : Orders W → Parts → Parts → Type 0) (by : Orders W)
    (pass : Parts) (verifier : V) (by' : Orders W) (pass' : Parts) (verifier' : V) : Type 0 where
  pub same : by' ≡ by
  pub worked : HasDone by pass pass'
  pub verifier_faults : faults verifier ≤ faults verifier'
