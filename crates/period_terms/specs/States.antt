-- What an authority holds, and what a change adds to it.
use Rattle.std.specs.Prelude.{ℕ, ◌+◌, Bool, true, false, ◌&&◌, List, [], ◌∷◌, ◌++◌, length, count_by, filter, not}
use Rattle.std.specs.{Prelude.Option, List.list_any, Str.bytes_eq}
use Rattle.dir_values.specs.{Digests.same_identity, declared.digest.Fingerprint.Fingerprint}
use Rattle.vote_terms.specs.Votes.{ReadVote}
pub use Rattle.vote_terms.specs.Held.{vote_of}
use Rattle.consensus_terms.specs.declared.{consensus.Consensus.Consensus, flavour.Flavour.{Flavour, TheVariants.Ns}}
use Rattle.consensus_terms.specs.declared.{flavour.Flavour.TheVariants.Microdesc, signature.SignatureLine.SignatureLine}
use Rattle.consensus_terms.specs.{Texts.unsigned, Signed.{digests_of, signed}}
use Rattle.compute_terms.specs.Consensuses.{consensus}
use Rattle.count_terms.specs.Counts.{over}
use Rattle.period_terms.specs.declared.{change.{Change.Change, ChangeKind.ChangeKind}, stage.Stage.Stage}
use Rattle.period_terms.specs.declared.stage.Stage.TheVariants.{Voting, Frozen, Computed, Signed, Ended}
use Rattle.period_terms.specs.declared.state.State.{State}

-- an answer, and the state after it
pub record Outcome (Answer : Type 0) : Type 0 where
  pub answer : Answer
  pub after : State

-- an answer to what changes nothing
abbrev pub unchanged_outcome : {Answer : Type 0} → State → Answer → Outcome Answer
unchanged_outcome state answer = record { answer = answer; after = state }

-- ---- stages

-- whether votes are taken
abbrev pub is_voting : Stage → Bool
is_voting Voting = true
is_voting Frozen = false
is_voting Computed = false
is_voting Signed = false
is_voting Ended = false

-- whether the period ended
abbrev pub is_ended : Stage → Bool
is_ended Voting = false
is_ended Frozen = false
is_ended Computed = false
is_ended Signed = false
is_ended Ended = true

-- ---- votes

-- whether a held vote has this authority and this signing key
abbrev pub has_key : List ReadVote → Fingerprint → List ℕ → Bool
has_key votes authority key =
    list_any
    (λ vote. same_identity vote.says.identity authority && bytes_eq vote.says.certificate.signing_key key) votes

-- ---- the consensus

-- the consensus of the held votes
unfoldable pub consensus_of : State → Consensus
consensus_of state = consensus state.newest (length state.roster) state.votes

-- the digest of a text of a flavour, over which it is signed
unfoldable pub text_digest : Flavour → List ℕ → List ℕ
text_digest Ns text = (digests_of text).sha1.0
text_digest Microdesc text = (digests_of text).sha256.0

-- the digest of a consensus in a flavour
abbrev pub digest_of : Flavour → Consensus → List ℕ
digest_of flavour c = text_digest flavour (unsigned flavour c)

-- the two digests, of ns first
abbrev pub both_digests : Consensus → List ℕ
both_digests c = digest_of Ns c ++ digest_of Microdesc c

-- ---- signatures

-- the signatures of a flavour that are held
abbrev pub lines_of : Flavour → State → List SignatureLine
lines_of Ns state = state.ns_lines
lines_of Microdesc state = state.micro_lines

-- whether one of some signatures is an authority's
abbrev pub has_line : List SignatureLine → Fingerprint → Bool
has_line lines authority = list_any (λ line. same_identity line.identity authority) lines

-- the signatures, with this one in place of its authority's
abbrev pub with_signature : List SignatureLine → SignatureLine → List SignatureLine
with_signature lines line = filter (λ other. not (same_identity other.identity line.identity)) lines ++ line ∷ []

-- how many authorities of the roster have a signature among them
abbrev pub signers_in : List Fingerprint → List SignatureLine → ℕ
signers_in roster lines = count_by (λ member. has_line lines member) roster

-- the authorities whose signature of a flavour is held, counted
abbrev pub signers : Flavour → State → ℕ
signers flavour state = signers_in state.roster (lines_of flavour state)

-- whether more than half of the roster signed a flavour
abbrev pub is_signed : Flavour → State → Bool
is_signed flavour state = over (signers flavour state) (length state.roster)

-- a consensus in a flavour, with the signatures that are held
abbrev pub signed_text : Flavour → State → Consensus → List ℕ
signed_text flavour state c = signed (unsigned flavour c) (lines_of flavour state)

-- ---- changes

-- a change of this kind, of an authority where it is one's
abbrev pub change : ChangeKind → Option Fingerprint → ℕ → List ℕ → Change
change kind authority published digest =
    record { kind = kind; authority = authority; published = published; digest = digest }

-- the state with one more change
abbrev pub with_change : Change → State → State
with_change one state = record state { front = state.front + 1; changes = state.changes ++ one ∷ [] }
