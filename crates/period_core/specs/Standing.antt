-- What an authority keeps, whatever comes to it.
use Rattle.std.specs.{Prelude.{◌≡◌, ℕ, ◌+◌, ◌*◌, ◌≤◌, true, false, List, [], ◌∷◌, length, All}, List.list_any}
use Rattle.dir_bytes.specs.Causes.{last_moment}
use Rattle.dir_values.specs.{declared.digest.Fingerprint.Fingerprint, Digests.same_identity, Rosters.IsRoster}
use Rattle.dir_values.specs.Rosters.{has_member}
use Rattle.consensus_terms.specs.declared.signature.SignatureLine.{SignatureLine}
use Rattle.vote_terms.specs.{Votes.ReadVote, Held.VotesAscend}
use Rattle.vote_schedule.specs.Schedules.{IsSchedule}
use Rattle.period_terms.specs.declared.stage.Stage.{Stage, TheVariants.{Voting, Frozen, Computed, Signed, Ended}}
use Rattle.period_terms.specs.{declared.state.State.State, Offers.most_vote_changes, KeptFacts.AgreesWithChanges}

-- each is of a member of the roster, and no two are of one
abbrev pub AreOf : {X : Type 0} → (X → Fingerprint) → List Fingerprint → List X → Type 0
AreOf of roster [] = Unit {0}
AreOf of roster (x ∷ xs) = (has_member roster (of x) ≡ true) × (list_any (λ other. same_identity (of x) (of other))
    xs ≡ false) × AreOf of roster xs

-- The votes ascend by identity, strictly, and each is of a member of the roster.
pub record AreHeld (roster : List Fingerprint) (votes : List ReadVote) : Type 0 where
  pub ascend : VotesAscend votes
  pub members : All (λ (vote : ReadVote). has_member roster vote.says.identity ≡ true) votes

-- each signature is of a member of the roster, and no two are of one
abbrev pub AreSigners : List Fingerprint → List SignatureLine → Type 0
AreSigners roster lines = AreOf (λ (line : SignatureLine). line.identity) roster lines

-- how many changes of a period a stage stands for, beside votes and signatures
abbrev pub stage_changes : Stage → ℕ
stage_changes Voting = 0
stage_changes Frozen = 1
stage_changes Computed = 2
stage_changes Signed = 3
stage_changes Ended = 4

-- for how many votes, and for how many signatures of a flavour, there is room: one more than a roster has members
abbrev pub most_votes : ℕ
most_votes = 33

-- how many changes a period has at most
abbrev pub most_changes : ℕ
most_changes = 65603

-- What an authority keeps, whatever comes to it.
pub record IsStanding (state : State) : Type 0 where
  pub members : IsRoster state.roster
  pub own : has_member state.roster state.own ≡ true
  pub times : IsSchedule state.schedule
  pub moment : state.valid_after ≤ last_moment
  pub votes : AreHeld state.roster state.votes
  pub few : state.vote_changes ≤ most_vote_changes
  pub ns : AreSigners state.roster state.ns_lines
  pub micro : AreSigners state.roster state.micro_lines
  pub logged : length state.changes ≤ state.vote_changes + stage_changes state.stage + length state.ns_lines + length
      state.micro_lines
  pub agrees : AgreesWithChanges state
  pub base : state.base + most_changes + 1 ≤ (most_changes + 1) * state.valid_after
