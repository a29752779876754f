-- What the stored changes of a period tell of the state.
use Rattle.std.specs.Prelude.{◌≡◌, ◌==◌, ℕ, ◌+◌, Bool, true, false, ◌&&◌, ◌||◌, List, length, fold, count_by, Option}
use Rattle.std.specs.{Prelude.{Some, None, option_map, if◌then◌else◌}, List.list_any}
use Rattle.dir_values.specs.{declared.digest.Fingerprint.Fingerprint, Digests.same_identity}
use Rattle.vote_terms.specs.{declared.rank.Rank.Rank, Votes.rank_of}
use Rattle.consensus_terms.specs.declared.flavour.Flavour.{Flavour, TheVariants.{Ns, Microdesc}}
use Rattle.period_terms.specs.declared.{change.{Change.Change, ChangeKind.ChangeKind}, stage.Stage.Stage}
use Rattle.period_terms.specs.declared.stage.Stage.TheVariants.{Voting, Frozen, Computed, Signed, Ended}
use Rattle.period_terms.specs.{declared.state.State.State, States.{vote_of, lines_of, has_line}}
use Rattle.period_terms.specs.declared.change.ChangeKind.TheVariants as kind

-- whether a change is of an authority
abbrev pub is_of : Option Fingerprint → Fingerprint → Bool
is_of None authority = false
is_of (Some other) authority = same_identity other authority

-- the last of some changes that passes a test
abbrev pub last_of : (Change → Bool) → List Change → Option Change
last_of test changes = fold (λ found change. if test change then Some change else found) None changes

-- ---- votes

-- whether a change kept a vote
abbrev pub keeps_vote : ChangeKind → Bool
keeps_vote kind.Vote = true
keeps_vote kind.Freeze = false
keeps_vote kind.Compute = false
keeps_vote kind.NoConsensus = false
keeps_vote kind.Sign = false
keeps_vote kind.NoOwnVote = false
keeps_vote kind.Signature = false
keeps_vote kind.Publish = false
keeps_vote kind.Miss = false
keeps_vote kind.Begin = false

-- the rank of the vote that a change kept
abbrev pub rank_told : Change → Rank
rank_told change = record { published = change.published; whole = record { 0 = change.digest } }

-- whether a change kept a vote of an authority
abbrev pub keeps_vote_of : Fingerprint → Change → Bool
keeps_vote_of authority change = keeps_vote change.kind && is_of change.authority authority

-- the rank of an authority's vote that was kept last
abbrev pub last_rank : List Change → Fingerprint → Option Rank
last_rank changes authority = option_map rank_told (last_of (keeps_vote_of authority) changes)

-- the rank of the vote that is held of an authority
abbrev pub held_rank : State → Fingerprint → Option Rank
held_rank state authority = option_map rank_of (vote_of state.votes authority)

-- ---- stages

-- the stage after a change of this kind
abbrev pub stage_by : Stage → ChangeKind → Stage
stage_by stage kind.Vote = stage
stage_by stage kind.Freeze = Frozen
stage_by stage kind.Compute = Computed
stage_by stage kind.NoConsensus = Ended
stage_by stage kind.Sign = Signed
stage_by stage kind.NoOwnVote = Signed
stage_by stage kind.Signature = stage
stage_by stage kind.Publish = Ended
stage_by stage kind.Miss = Ended
stage_by stage kind.Begin = Voting

-- the stage that changes tell: that which the last of those that set one sets
abbrev pub last_stage : List Change → Stage
last_stage changes = fold (λ stage (change : Change). stage_by stage change.kind) Voting changes

-- ---- signatures

-- whether digests of so many bytes have one of a flavour: of ns 20, of microdesc 32
abbrev pub has_flavour : Flavour → ℕ → Bool
has_flavour Ns size = (size == 20) || (size == 52)
has_flavour Microdesc size = (size == 32) || (size == 52)

-- whether a change kept a signature
abbrev pub keeps_signature : ChangeKind → Bool
keeps_signature kind.Vote = false
keeps_signature kind.Freeze = false
keeps_signature kind.Compute = false
keeps_signature kind.NoConsensus = false
keeps_signature kind.Sign = true
keeps_signature kind.NoOwnVote = false
keeps_signature kind.Signature = true
keeps_signature kind.Publish = false
keeps_signature kind.Miss = false
keeps_signature kind.Begin = false

-- whether a change kept an authority's signature of a flavour
abbrev pub keeps_line : Flavour → Fingerprint → Change → Bool
keeps_line flavour authority change =
    keeps_signature change.kind && is_of change.authority authority && has_flavour flavour (length change.digest)

-- whether an authority's signature of a flavour was kept
abbrev pub was_kept : Flavour → List Change → Fingerprint → Bool
was_kept flavour changes authority = list_any (keeps_line flavour authority) changes

-- ---- the kept fact

-- What the stored changes tell of the state.
pub record AgreesWithChanges (state : State) : Type 0 where
  -- of each authority the rank of the held vote is that of its last change of a vote since the period began
  pub ranks : (authority : Fingerprint) → held_rank state authority ≡ last_rank state.changes authority
  -- the stage is that of the last change that sets one
  pub stage : state.stage ≡ last_stage state.changes
  -- those whose signature of a flavour is held are those of whom one was kept
  pub signers : (flavour : Flavour) (authority : Fingerprint)
      → has_line (lines_of flavour state) authority ≡ was_kept flavour state.changes authority
  -- as often as a vote was kept
  pub votes : state.vote_changes ≡ count_by (λ (change : Change). keeps_vote change.kind) state.changes
  -- the changes are those since the period began
  pub front : state.front ≡ state.base + length state.changes
