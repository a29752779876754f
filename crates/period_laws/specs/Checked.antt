-- Histories whose events were checked before they came, and what is known of the authority that such a one leads to.
use Rattle.std.specs.Prelude.{◌≡◌, true, List, [], ◌∷◌, ◌++◌, map, option_to_list, Contains, Some}
use Rattle.sha1.specs.Sha1.{sha1}
use Rattle.key_port.specs.Answers.{Relation, Rules}
use Rattle.key_port.specs.declared.verifier.KeyKind.TheVariants as key_kind
use Rattle.vote_terms.specs.{Votes.ReadVote, Acceptable.{IsVerified, IsAcceptable}}
use Rattle.consensus_terms.specs.declared.{consensus.Consensus.Consensus, flavour.Flavour.Flavour}
use Rattle.detached_sigs.specs.Signers.{CountsSigners}
use Rattle.period_terms.specs.declared.{entry.Entry.Entry, event.Event.{Event, TheVariants.{Offered, Advanced}}}
use Rattle.period_terms.specs.declared.event.Event.TheVariants.{SignedIn, Read}
use Rattle.period_terms.specs.declared.{signature.OfferedSignature.OfferedSignature, state.State.State}
use Rattle.period_terms.specs.{Advances.MayGiveAt, States.{lines_of, digest_of, signers}, Histories.IsStart}
use Rattle.period_terms.specs.{Histories.{IsHistory, run, after, entry_if, accepted}, Steps.step, Keys.signer_key}
use Rattle.period_laws.specs.Periods.{Along}

-- ---- what was checked

-- A signature was accepted by the key whose digest it names.
pub record IsAcceptedAs (rules : Rules) (signature : OfferedSignature) : Type 0 where
  pub accepted : rules.may_accept key_kind.Signing signature.key signature.digest signature.signature ≡ true
  pub named : signature.key_digest.0 ≡ sha1 signature.key

-- What comes was checked before: a vote holds, a signature was accepted by the key that it names, and what the signer
-- gave was accepted or refused.
abbrev pub IsChecked : Relation → Rules → State → Event → Type 0
IsChecked may_give rules state (Offered vote via now) = IsVerified rules vote
IsChecked may_give rules state (Advanced now given) = MayGiveAt may_give rules state given
IsChecked may_give rules state (SignedIn signature) = IsAcceptedAs rules signature
IsChecked may_give rules state Read = Unit {0}

-- all that comes was
abbrev pub AreChecked : Relation → Rules → State → List Event → Type 0
AreChecked may_give rules state events = Along (IsChecked may_give rules) state events

-- ---- histories

-- the events of a history
abbrev pub events_of : List Entry → List Event
events_of [] = []
events_of (entry ∷ entries) = entry.event ∷ events_of entries

-- The events of a history lead where it leads.
abbrev pub HistoryRuns : Type 0
HistoryRuns = (start : State) (story : List Entry) → run start (events_of story) ≡ after start story

-- any signature may be given
abbrev pub anything : Relation
anything kind key digest bytes = true

-- A history whose events were checked before they came, whoever signed.
pub record IsCheckedHistory (rules : Rules) (start : State) (story : List Entry) : Type 0 where
  pub is : IsHistory start story
  pub checked : AreChecked anything rules start (events_of story)

-- A history that was checked goes on by an event that was, as one with that event's entry, if it changed something.
abbrev pub CheckedGoesOn : Type 0
CheckedGoesOn = (rules : Rules) (start : State) (story : List Entry) (event : Event)
    → IsCheckedHistory rules start story → IsChecked anything rules (after start story) event
    → IsCheckedHistory rules start
    (story ++ option_to_list (entry_if event (step (after start story) event).answer))

-- ---- the laws

-- Whatever came that was checked, each accepted vote is acceptable: one for the period, of an authority of the roster,
-- that holds.
abbrev pub AcceptedAreAcceptable : Type 0
AcceptedAreAcceptable = (may_give : Relation) (rules : Rules) (start : State) (events : List Event) → IsStart start
    → AreChecked may_give rules start events
    → (vote : ReadVote) → Contains (accepted start events) vote
    → IsAcceptable rules start.roster (run start events).valid_after vote

-- Whatever came that was checked, those who have a signature of a flavour, counted, are the signers of its digest by the
-- signatures that are held, of the keys of the held votes.
abbrev pub SignersAreCounted : Type 0
SignersAreCounted = (may_give : Relation) (rules : Rules) (start : State) (events : List Event) → IsStart start
    → AreChecked may_give rules start events
    → (flavour : Flavour) (c : Consensus) → (run start events).computed ≡ Some c
    → CountsSigners rules (digest_of flavour c) (map signer_key (run start events).votes)
    (lines_of flavour (run start events)) (signers flavour (run start events))
