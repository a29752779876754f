-- What was checked of what comes is known of each signature that is held.
use Rattle.std.{proofs.Common.{◌≡◌, true, ℕ, List}, specs.Prelude.Contains}
use Rattle.sha1.specs.Sha1.{sha1}
use Rattle.key_port.specs.Answers.{Relation, Rules}
use Rattle.key_port.specs.declared.verifier.KeyKind.TheVariants as key_kind
use Rattle.dir_values.specs.{declared.digest.Fingerprint.Fingerprint, Rosters.has_member}
use Rattle.vote_terms.specs.Votes.{ReadVote}
use Rattle.consensus_terms.specs.declared.{flavour.Flavour.Flavour, signature.SignatureLine.SignatureLine}
use Rattle.period_terms.specs.declared.event.Event.{Event, TheVariants.{Offered, Advanced, SignedIn, Read}}
use Rattle.period_terms.specs.{declared.state.State.State, States.lines_of, Histories.{IsStart, run}}
use Rattle.period_laws.{specs.{Periods.{IsSignedWell, IsAccepted}, Checked.{IsChecked, AreChecked}}, proofs.Members.In}
use Rattle.period_laws.proofs.{Signers.Telling, LinesTold.{IsTold, along_weaker}}
use Rattle.period_laws.proofs.LinesTold as lines

-- ---- what was checked

-- what comes that was checked is signed well
well : (may_give : Relation) (rules : Rules) (s : State) (event : Event) → IsChecked may_give rules s event
    → IsSignedWell may_give rules s event
well may_give rules s (Offered vote via now) h = tt
well may_give rules s (Advanced now given) h = h
well may_give rules s (SignedIn signature) h = h.accepted
well may_give rules s Read h = tt

-- each signature that is held may be accepted, by the key of its authority's held vote
pub lines_accepted : (may_give : Relation) (rules : Rules) (start : State) (events : List Event) → IsStart start
    → AreChecked may_give rules start events
    → (flavour : Flavour) (line : SignatureLine) → Contains (lines_of flavour (run start events)) line
    → IsAccepted rules.may_accept (run start events) flavour line
lines_accepted may_give rules start events begin checked flavour line c =
    lines.accepted may_give rules start events begin
    (along_weaker (IsChecked may_give rules) (IsSignedWell may_give rules) (well may_give rules) start events checked)
    flavour line c

-- a signature may be accepted, and names its key
abbrev pub NamesIt : Rules → Telling
NamesIt rules key digest line =
    (rules.may_accept key_kind.Signing key digest line.signature ≡ true) × (line.key_digest.0 ≡ sha1 key)

-- what comes that was checked names its key
pub named : (may_give : Relation) (rules : Rules) (s : State) (event : Event) → IsChecked may_give rules s event
    → IsTold may_give rules (NamesIt rules) s event
named may_give rules s (Offered vote via now) h = tt
named may_give rules s (Advanced now given) h = h
named may_give rules s (SignedIn signature) h = (h.accepted, h.named)
named may_give rules s Read h = tt

-- ---- what stands

-- a signature is of a held vote's authority and key, and may be accepted
pub record IsBacked (rules : Rules) (digest : List ℕ) (votes : List ReadVote) (line : SignatureLine) : Type 0 where
  pub vote : ReadVote
  pub there : In vote votes
  pub same : vote.says.identity ≡ line.identity
  pub names : NamesIt rules vote.says.certificate.signing_key digest line

-- what holds of the votes and the signatures of a flavour that are held
pub record Counts (rules : Rules) (digest : List ℕ) (roster : List Fingerprint) (votes : List ReadVote)
    (held_lines : List SignatureLine) : Type 0 where
  pub good : (line : SignatureLine) → In line held_lines → IsBacked rules digest votes line
  -- one vote is held of an authority, which is of the roster
  pub one : (a b : ReadVote) → In a votes → In b votes → a.says.identity ≡ b.says.identity → a ≡ b
  pub member : (vote : ReadVote) → In vote votes → has_member roster vote.says.identity ≡ true
