-- How a document came to stand as the current one.
use Rattle.std.specs.Prelude.{◌≡◌, ℕ, ◌≤◌, Bool, true, false, List, [], ◌∷◌, ◌++◌, map, length, Contains, Some}
use Rattle.key_port.specs.Answers.{Rules}
use Rattle.vote_terms.specs.{Votes.ReadVote, Held.held, Acceptable.IsAcceptable}
use Rattle.consensus_terms.specs.declared.{consensus.Consensus.Consensus, flavour.Flavour.{Flavour, TheVariants.Ns}}
use Rattle.consensus_terms.specs.declared.{flavour.Flavour.TheVariants.Microdesc, signature.SignatureLine.SignatureLine}
use Rattle.consensus_terms.specs.{Texts.unsigned, Signed.signed}
use Rattle.compute_terms.specs.Consensuses.{consensus}
use Rattle.count_terms.specs.Counts.{over}
use Rattle.detached_sigs.specs.Signers.{CountsSigners}
use Rattle.period_terms.specs.declared.{answer.{Advance.Advance, Answer.Answer}, entry.Entry.Entry}
use Rattle.period_terms.specs.declared.{event.{Event.TheVariants.Advanced, Signing.Signing}, state.State.State}
use Rattle.period_terms.specs.{Readings.current_of, States.{lines_of, digest_of, signers}, Histories.{IsStart, after}}
use Rattle.period_terms.specs.{Histories.accepted, Keys.signer_key}
use Rattle.period_terms.specs.declared.answer.Advance.TheVariants as moments
use Rattle.period_terms.specs.declared.answer.Answer.TheVariants as answers
use Rattle.period_laws.specs.{Periods.IsAccepted, Checked.{IsCheckedHistory, events_of}}

-- which of two is a flavour's
abbrev pub of_flavour : Flavour → Bool → Bool → Bool
of_flavour Ns ns microdesc = ns
of_flavour Microdesc ns microdesc = microdesc

-- whether a moment that is answered so publishes a flavour
abbrev pub publishes_then : Flavour → Advance → Bool
publishes_then flavour moments.Nothing = false
publishes_then flavour moments.Frozen = false
publishes_then flavour moments.Computed = false
publishes_then flavour (moments.NoConsensus held roster) = false
publishes_then flavour moments.NoOwnVote = false
publishes_then flavour moments.Signed = false
publishes_then flavour (moments.Published ns microdesc) = of_flavour flavour ns microdesc
publishes_then flavour (moments.Missed ns microdesc roster) = false
publishes_then flavour (moments.Began valid_after) = false
publishes_then flavour moments.EndOfTime = false
publishes_then flavour moments.SignerFault = false
publishes_then flavour moments.VerifierFault = false
publishes_then flavour (moments.OwnSignatureRefused digest) = false

-- whether an event that is answered so does
abbrev pub publishes : Flavour → Answer → Bool
publishes flavour (answers.Vote answer) = false
publishes flavour (answers.Moment answer) = publishes_then flavour answer
publishes flavour (answers.Signature answer) = false
publishes flavour answers.Reading = false

-- none of these entries does
abbrev pub PublishNone : Flavour → List Entry → Type 0
PublishNone flavour [] = Unit {0}
PublishNone flavour (entry ∷ entries) = (publishes flavour entry.answer ≡ false) × PublishNone flavour entries

-- an advance of a state and its answer
abbrev pub advance_entry : ℕ → Signing → Advance → Entry
advance_entry now given answer = record { event = Advanced now given; answer = answers.Moment answer }

-- The text of a flavour is that of the last publication in a history.
pub record IsLastPublished (start : State) (story : List Entry) (flavour : Flavour) (text : List ℕ) : Type 0 where
  pub before : List Entry
  pub now : ℕ
  pub given : Signing
  pub ns : Bool
  pub microdesc : Bool
  pub later : List Entry
  -- the history has it, and later ones not of this flavour
  pub is : story ≡ before ++ advance_entry now given (moments.Published ns microdesc) ∷ later
  pub of_it : of_flavour flavour ns microdesc ≡ true
  pub last : PublishNone flavour later
  -- what was computed then, and the signatures that were held then
  pub c : Consensus
  pub computed : (after start before).computed ≡ Some c
  pub text_is : text ≡ signed (unsigned flavour c) (lines_of flavour (after start before))
  -- the period had begun
  pub begun : (after start before).valid_after ≤ now
  -- and more than half had signed
  pub most : over (signers flavour (after start before)) (length start.roster) ≡ true

-- What is known of a state of which a consensus is published in a flavour.
pub record MayPublish (rules : Rules) (start : State) (story : List Entry) (flavour : Flavour) (c : Consensus) :
    Type 0 where
  -- it is that of the accepted votes of the period alone
  pub accepted_alone : c ≡ consensus start.newest (length start.roster) (held (accepted start (events_of story)))
  -- each of which is acceptable
  pub acceptable : (vote : ReadVote) → Contains (accepted start (events_of story)) vote
      → IsAcceptable rules start.roster (after start story).valid_after vote
  -- each signature that is held may be accepted over its digest, by the key of its authority's held vote
  pub verified : (line : SignatureLine) → Contains (lines_of flavour (after start story)) line
      → IsAccepted rules.may_accept (after start story) flavour line
  -- and those who have one, counted, are the signers of that digest, of the keys of the held votes
  pub counted : CountsSigners rules (digest_of flavour c) (map signer_key (after start story).votes)
      (lines_of flavour (after start story)) (signers flavour (after start story))

-- A text was published in a history: with signatures of more than half of the roster, each of which may be accepted over
-- the digest of what was computed of acceptable votes alone.
pub record WasPublished (rules : Rules) (start : State) (story : List Entry) (flavour : Flavour) (text : List ℕ) :
    Type 0 where
  pub last : IsLastPublished start story flavour text
  pub may : MayPublish rules start last.before flavour last.c

-- Whatever came that was checked, a text that stands as the current one was published.
abbrev pub CurrentsWerePublished : Type 0
CurrentsWerePublished = (rules : Rules) (start : State) (story : List Entry) → IsStart start
    → IsCheckedHistory rules start story
    → (flavour : Flavour) (text : List ℕ) → current_of flavour (after start story) ≡ Some text
    → WasPublished rules start story flavour text
