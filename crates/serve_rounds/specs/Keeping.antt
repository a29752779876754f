-- What a call keeps of what is lent for the duties, and what it adds and asks with it.
use Rattle.std.specs.Prelude.{◌≡◌, ◌≤◌, ℕ, List}
use Rattle.key_port.specs.Answers.{Rules}
use Rattle.serve_board.specs.Boards.{IsAt, Locks, Parts}
use Rattle.serve_rounds.specs.{declared.lent.Lent.Lent, Exchanges.{AsksSome, IsDue, LinkSteps}, Plans.Planned}
use Rattle.serve_rounds.specs.Spans.{AddedKind, Adds, AddsNone}

-- The same is lent still, its pass is of the board, and no count fell.
pub record Keeps {V N L : Type 0} (V_faults : V → ℕ) (N_faults : N → ℕ) (L_faults : L → ℕ) (board : Locks)
    (old new : Lent V N L) : Type 0 where
  pub same_pass : new.pass.ghost_name ≡ old.pass.ghost_name
  pub same_verifier : new.verifier.ghost_name ≡ old.verifier.ghost_name
  pub same_signer : new.signer.ghost_name ≡ old.signer.ghost_name
  pub same_link : new.link.ghost_name ≡ old.link.ghost_name
  pub at : IsAt board new.pass.now
  pub verifier : V_faults old.verifier.now ≤ V_faults new.verifier.now
  pub signer : N_faults old.signer.now ≤ N_faults new.signer.now
  pub link : L_faults old.link.now ≤ L_faults new.link.now

-- The pass adds entries of this kind alone.
abbrev pub AddsTo : {V N L : Type 0} → AddedKind → Lent V N L → Lent V N L → Type 0
AddsTo P old new = (a : Parts) → Adds P a old.pass.now → Adds P a new.pass.now

-- The pass adds none.
abbrev pub AddsNothing : {V N L : Type 0} → Lent V N L → Lent V N L → Type 0
AddsNothing old new = (a : Parts) → AddsNone a old.pass.now → AddsNone a new.pass.now

-- The link asks some of a plan, where it is due.
abbrev pub AsksOf : {V N L : Type 0} → LinkSteps L → Rules → Locks → List Planned → Lent V N L → Lent V N L → Type 0
AsksOf steps rules board plan old new =
    AsksSome steps (IsDue rules board old.pass.now new.pass.now) plan old.link.now new.link.now
