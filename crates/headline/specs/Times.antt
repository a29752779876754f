-- What is so at each time of an authority: of the votes that it accepted, of what it computed of them, and of what it
-- published.
use Rattle.std.specs.Prelude.{◌≡◌, ◌++◌, ◌∷◌, ◌&&◌, ◌<◌, ℕ, Bool, true, List, length, count_by, Contains, Some}
use Rattle.std.specs.List.{list_any}
use Rattle.count_terms.specs.{Counts.over, declared.newest.Newest.Newest}
use Rattle.dir_values.specs.{declared.digest.Fingerprint.Fingerprint, Digests.same_identity, Rosters.has_member}
use Rattle.key_port.specs.Answers.{Rules}
use Rattle.key_port.specs.declared.verifier.KeyKind.TheVariants as kind
use Rattle.vote_terms.specs.{Votes.ReadVote, Held.{held, IsHeld}, Acceptable.IsAcceptable}
use Rattle.compute_terms.specs.Consensuses.{consensus}
use Rattle.consensus_terms.specs.declared.{consensus.Consensus.Consensus, flavour.Flavour.Flavour}
use Rattle.consensus_terms.specs.{declared.signature.SignatureLine.SignatureLine, Texts.unsigned, Signed.signed}
use Rattle.period_terms.specs.{Readings.current_of, States.digest_of, Histories.{IsStart, accepts, after, accepted}}
use Rattle.period_terms.specs.{Offers.{offer, most_vote_changes}, Schedules.cutoff_of, declared.answer.Advance.Advance}
use Rattle.period_terms.specs.declared.{entry.Entry.Entry, event.{Signing.Signing, Via.Via}}
use Rattle.period_terms.specs.declared.{stage.Stage.TheVariants.{Frozen, Voting}, state.State.State}
use Rattle.period_terms.specs.declared.answer.Advance.TheVariants as moments
use Rattle.period_laws.specs.{Checked.{IsCheckedHistory, events_of}, Publications.advance_entry}

-- whether a member signed a digest: one of these signatures is its, and may be accepted by the signing key of its vote
abbrev pub has_signed : Rules → List ℕ → List ReadVote → List SignatureLine → Fingerprint → Bool
has_signed rules digest votes lines member =
    list_any (λ (line : SignatureLine). same_identity line.identity member
    && list_any (λ (vote : ReadVote). same_identity vote.says.identity member
    && rules.may_accept kind.Signing vote.says.certificate.signing_key digest line.signature) votes) lines

-- The text is the consensus of acceptable votes alone, by the newest method that is known, with signatures behind it,
-- and more than half of the roster signed its digest.
pub record IsRightlySigned (rules : Rules) (roster : List Fingerprint) (newest : Newest) (flavour : Flavour)
    (text : List ℕ) : Type 0 where
  pub period : ℕ
  pub votes : List ReadVote
  pub acceptable : (vote : ReadVote) → Contains votes vote → IsAcceptable rules roster period vote
  pub c : Consensus
  pub alone : c ≡ consensus newest (length roster) (held votes)
  pub lines : List SignatureLine
  pub text_is : text ≡ signed (unsigned flavour c) lines
  pub most : over (count_by (has_signed rules (digest_of flavour c) (held votes) lines) roster) (length roster) ≡ true

-- What an authority has that accepted these votes of its period.
pub record Has (rules : Rules) (roster : List Fingerprint) (newest : Newest) (state : State) (votes : List ReadVote)
    : Type 0 where
  -- each is acceptable: of the period, of a member, and it holds
  pub acceptable : (vote : ReadVote) → Contains votes vote → IsAcceptable rules roster state.valid_after vote
  -- of each member that of the greatest rank is held, and of different votes of that rank the first
  pub held_are : IsHeld votes state.votes
  -- what is computed is the specification's, of the roster and of these alone
  pub alone : (c : Consensus) → state.computed ≡ Some c → c ≡ consensus newest (length roster) (held votes)
  -- a document that stands is one that more than half of the roster signed
  pub published : (flavour : Flavour) (text : List ℕ) → current_of flavour state ≡ Some text
      → IsRightlySigned rules roster newest flavour text

-- One list of changes of an authority. At each time it has what is said above; and with the votes of more than half of
-- the roster held where no more are taken, the next moment computes.
pub record IsRight (rules : Rules) (start : State) (story : List Entry) : Type 0 where
  pub always : (before later : List Entry) → story ≡ before ++ later
      → Has rules start.roster start.newest (after start before) (accepted start (events_of before))
  pub computes : (before later : List Entry) (now : ℕ) (given : Signing) (answer : Advance)
      → story ≡ before ++ advance_entry now given answer ∷ later → (after start before).stage ≡ Frozen
      → over (length (after start before).votes) (length start.roster) ≡ true → answer ≡ moments.Computed

-- Each list of changes that was checked is so.
abbrev pub CheckedAreRight : Type 0
CheckedAreRight = (rules : Rules) (start : State) (story : List Entry) → IsStart start
    → IsCheckedHistory rules start story → IsRight rules start story

-- ---- two documents

-- Of two documents of a flavour that are rightly signed for one roster some member signed both digests.
pub record SignedBoth (rules : Rules) (roster : List Fingerprint) (newest other_newest : Newest) (flavour : Flavour)
    (text other : List ℕ) (one : IsRightlySigned rules roster newest flavour text)
    (two : IsRightlySigned rules roster other_newest flavour other) : Type 0 where
  pub member : Fingerprint
  pub of_it : Contains roster member
  pub first : has_signed rules (digest_of flavour one.c) (held one.votes) one.lines member ≡ true
  pub second : has_signed rules (digest_of flavour two.c) (held two.votes) two.lines member ≡ true

abbrev pub SomeoneSignedBoth : Type 0
SomeoneSignedBoth = (rules : Rules) (roster : List Fingerprint) (newest other_newest : Newest) (flavour : Flavour)
    (text other : List ℕ) (one : IsRightlySigned rules roster newest flavour text)
    (two : IsRightlySigned rules roster other_newest flavour other)
    → SignedBoth rules roster newest other_newest flavour text other one two

-- ---- which deliveries are accepted

-- A vote that comes this way at this moment is for the period and of a member, and it is not late: votes are taken, and
-- its cutoff is to come.
pub record IsDelivered (state : State) (vote : ReadVote) (via : Via) (now : ℕ) : Type 0 where
  pub period : vote.says.valid_after ≡ state.valid_after
  pub member : has_member state.roster vote.says.identity ≡ true
  pub voting : state.stage ≡ Voting
  pub early : now < cutoff_of via state.schedule state.valid_after

-- A vote is accepted only so; and where the period has room for one more change, each such vote is accepted.
pub record AreAcceptedSo (state : State) (vote : ReadVote) (via : Via) (now : ℕ) : Type 0 where
  pub only : accepts (offer state vote via now).answer ≡ true → IsDelivered state vote via now
  pub each : IsDelivered state vote via now → state.vote_changes < most_vote_changes
      → accepts (offer state vote via now).answer ≡ true

abbrev pub DeliveriesAreAccepted : Type 0
DeliveriesAreAccepted = (state : State) (vote : ReadVote) (via : Via) (now : ℕ) → AreAcceptedSo state vote via now
