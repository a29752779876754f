-- What the duties of an authority add to a board, and what they answer (dir-spec, "Voting timeline").
use Rattle.std.specs.Prelude.{◌≡◌, ◌⊎◌, ◌++◌, ◌∷◌, [], ℕ, Bool, List, Result, Ok, Err}
use Rattle.dir_bytes.specs.declared.fault.Memory.{Memory}
use mathlib.Core.List.{IsPrefix}
use Rattle.key_port.specs.{Answers.{Relation, Rules, Steps}, Signing.SignerSteps}
use Rattle.flag_rules.specs.declared.{relay.RelayFacts.RelayFacts, ruling.Ruling.Ruling}
use Rattle.station_input.specs.declared.facts.StationFacts.{StationFacts}
use Rattle.lone_vote.specs.Alone.{IsVote}
use Rattle.vote_terms.specs.{Acceptable.IsVerified, Votes.ReadVote}
use Rattle.period_terms.specs.declared.{view.PeriodView.PeriodView, answer.Advance.Advance, entry.Entry.Entry}
use Rattle.period_terms.specs.declared.event.{Event.TheVariants.{Offered, Advanced, SignedIn}, Signing.Signing}
use Rattle.period_terms.specs.declared.event.Via.TheVariants.{Fetched, Own}
use Rattle.period_terms.specs.{declared.signature.OfferedSignature.OfferedSignature, Advances.MayGiveAt}
use Rattle.period_terms.specs.Histories.{after}
use Rattle.checked_sigs.specs.Checks.{ChecksAll, Tally}
use Rattle.period_terms.specs.declared.answer.Advance.TheVariants as moments
use Rattle.period_laws.specs.Checked.{IsAcceptedAs, IsCheckedHistory}
use Rattle.period_lock.specs.Turns.{entries}
use Rattle.serve_board.specs.Boards.{Locks, Parts, Advances}
use Rattle.serve_rounds.specs.{OwnVotes.{IsOwnVote, IsPeriodOf}, Spans.Adds}

-- ---- which entries duties may add

-- The entry is an advance at this moment, of the pass, with something that the signer may give where it stands; it
-- stands between.
pub record IsAdvance (gives : Relation) (rules : Rules) (board : Locks) (now : ℕ) (from to : Parts) (entry : Entry)
    : Type 0 where
  pub given : Signing
  pub event : entry.event ≡ Advanced now given
  pub place : List (ℕ × Entry)
  pub longer : IsPrefix from.state.seen place
  pub here : IsPrefix (place ++ (from.state.number, entry) ∷ []) to.state.seen
  pub is_story : IsCheckedHistory rules board.state.start (entries (place ++ (from.state.number, entry) ∷ []))
  pub may : MayGiveAt gives rules (after board.state.start (entries place)) given

-- The entry is the offer as Own, at this moment, of the vote that the authority made at this moment, for the period in
-- which the board was between and of the pool that stood there between.
pub record IsOwn {N : Type 0} (rules : Rules) (gives : Relation) (steps : SignerSteps N)
    (allows : RelayFacts → Ruling → Bool) (station : StationFacts) (board : Locks) (now : ℕ) (from to : Parts)
    (entry : Entry) : Type 0 where
  pub vote : ReadVote
  pub event : entry.event ≡ Offered vote Own now
  pub valid_after : ℕ
  pub period : IsPeriodOf rules board from to valid_after
  pub own : IsOwnVote rules gives steps allows station board from to valid_after now vote

-- the vote is that of some text, with nothing but blank lines behind it
abbrev pub StandsAlone : ReadVote → Type 0
StandsAlone vote = (text : List ℕ) × IsVote text vote

-- The entry is the offer as Fetched, at this moment, of a vote that holds, of a text with nothing else in it.
pub record IsFetched (rules : Rules) (now : ℕ) (entry : Entry) : Type 0 where
  pub vote : ReadVote
  pub event : entry.event ≡ Offered vote Fetched now
  pub alone : StandsAlone vote
  pub verified : IsVerified rules vote

-- The entry is the offer of a signature that the verifier may accept, by the key that it names.
pub record IsGathered (rules : Rules) (entry : Entry) : Type 0 where
  pub signature : OfferedSignature
  pub event : entry.event ≡ SignedIn signature
  pub accepted : IsAcceptedAs rules signature

-- The entry is the own vote, or a vote or a signature that was got of a peer.
abbrev pub IsRound : {N : Type 0} → Rules → Relation → SignerSteps N → (RelayFacts → Ruling → Bool) → StationFacts
    → Locks → ℕ → Parts → Parts → Entry → Type 0
IsRound rules gives steps allows station board now from to entry =
    IsOwn rules gives steps allows station board now from to entry
    ⊎ IsFetched rules now entry ⊎ IsGathered rules entry

-- ---- signatures of peers

-- Told are those signatures that the verifier accepted, in their order, of a body that is a document of signatures for the
-- period of the view.
pub record TellsAccepted {V : Type 0} (rules : Rules) (steps : Steps V) (body : List ℕ) (view : PeriodView)
    (signatures : List OfferedSignature) (old new : V) : Type 0 where
  pub tally : Tally
  pub checks : ChecksAll rules steps body view tally old new
  pub are : signatures ≡ tally.checked

-- ---- what duties answer

-- Behind this answer the state is not advanced again: nothing is left to do at the moment, or it can't be done.
abbrev pub Settles : Result Advance Memory → Type 0
Settles (Ok moments.Nothing) = Unit {0}
Settles (Ok moments.Frozen) = ⊥
Settles (Ok moments.Computed) = ⊥
Settles (Ok (moments.NoConsensus held roster)) = ⊥
Settles (Ok moments.NoOwnVote) = ⊥
Settles (Ok moments.Signed) = ⊥
Settles (Ok (moments.Published ns microdesc)) = ⊥
Settles (Ok (moments.Missed ns microdesc roster)) = ⊥
Settles (Ok (moments.Began valid_after)) = ⊥
Settles (Ok moments.EndOfTime) = Unit {0}
Settles (Ok moments.SignerFault) = Unit {0}
Settles (Ok moments.VerifierFault) = Unit {0}
Settles (Ok (moments.OwnSignatureRefused digest)) = Unit {0}
Settles (Err fault) = Unit {0}

-- The state was advanced at a moment until an answer settles it, and this is the last answer.
pub record AdvancesAll (gives : Relation) (rules : Rules) (board : Locks) (before then : Parts) (now : ℕ)
    (answer : Result Advance Memory) : Type 0 where
  pub from : Parts
  pub begun : Adds (IsAdvance gives rules board now) before from
  pub last : Advances rules board from then gives now answer
  pub settles : Settles answer

-- Duties at a moment: the state was advanced until an answer settles it, and this is the last answer; then the own
-- vote was offered, or votes or signatures that peers gave, and nothing else was added.
pub record Duties {N : Type 0} (rules : Rules) (gives : Relation) (steps : SignerSteps N)
    (allows : RelayFacts → Ruling → Bool) (station : StationFacts) (board : Locks) (before then : Parts) (now : ℕ)
    (answer : Result Advance Memory) : Type 0 where
  pub to : Parts
  pub advanced : AdvancesAll gives rules board before to now answer
  pub ended : Adds (IsRound rules gives steps allows station board now) to then
