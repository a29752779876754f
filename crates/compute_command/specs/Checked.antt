-- Votes that are checked as they come.
use Rattle.std.specs.Prelude.{◌≡◌, ℕ, ◌<◌, ◌≤◌, List, [], ◌∷◌, ◌++◌, length, All, Option, Some, None, Result, Ok, Err}
use Rattle.dir_bytes.specs.Causes.{Rose}
use Rattle.key_port.specs.Answers.{Rules}
use Rattle.vote_terms.specs.{Votes.ReadVote, Held.held, Acceptable.IsAcceptable}
use Rattle.vote_doc.specs.Holdings.{Holding}
use Rattle.daemon_words.specs.declared.command.Compute.{Compute}
use Rattle.daemon_words.specs.declared.stop.Stop.TheVariants as stop
use Rattle.compute_command.specs.declared.{refusal.AcceptRefusal.AcceptRefusal, checking.Checking.Checking}
use Rattle.compute_command.specs.{Accepting.StopsAt, Votes.most_votes}
use Rattle.compute_command.specs.declared.refusal.AcceptRefusal.TheVariants as refusal

-- each vote is acceptable, and these are held; or why the first is refused that is
abbrev pub CheckedSo : Rules → Compute → List ReadVote → List ReadVote → Option AcceptRefusal → Type 0
CheckedSo rules wanted votes kept None =
    (kept ≡ held votes) × All (λ vote. IsAcceptable rules wanted.roster wanted.valid_after vote) votes
CheckedSo rules wanted votes kept (Some why) = StopsAt rules wanted votes (stop.Refused why)

-- There is room for the held ones of so many votes.
pub record HasRoom (count : ℕ) (kept : Holding) : Type 0 where
  pub room : kept.room ≡ most_votes
  pub fits : length kept.votes ≤ count

-- These votes came, and were checked.
pub record IsChecked (rules : Rules) (wanted : Compute) (votes : List ReadVote) (checking : Checking) : Type 0 where
  pub count : checking.count ≡ length votes
  pub few : length votes ≤ most_votes
  pub room : HasRoom checking.count checking.kept
  pub checked : CheckedSo rules wanted votes checking.kept.votes checking.first

-- No vote came yet, whatever they are checked for.
abbrev pub NoneCame : Checking → Type 0
NoneCame checking = (rules : Rules) (wanted : Compute) → IsChecked rules wanted [] checking

-- One vote more came, and was checked.
abbrev pub OneMoreChecked : Rules → Compute → ReadVote → Checking → Checking → Type 0
OneMoreChecked rules wanted vote old new =
    (votes : List ReadVote) → IsChecked rules wanted votes old → IsChecked rules wanted (votes ++ vote ∷ []) new

-- Since it had failed so often the verifier failed at the first vote that is refused, or at none.
pub record TellsFirst (before now : ℕ) (first : Option AcceptRefusal) : Type 0 where
  pub more : before ≤ now
  pub cause : first ≡ Some refusal.Verifier → Rose before now
  pub told : before < now → first ≡ Some refusal.Verifier

-- where the verifier failed at the first vote that is refused, or at none, that is so afterwards
abbrev pub TellsOn : ℕ → ℕ → Option AcceptRefusal → Option AcceptRefusal → Type 0
TellsOn old new first then = (before : ℕ) → TellsFirst before old first → TellsFirst before new then

-- the held votes where no more come, or why one is refused
abbrev pub end_by : Holding → Option AcceptRefusal → Result Holding AcceptRefusal
end_by kept None = Ok kept
end_by kept (Some why) = Err why
