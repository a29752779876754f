-- The inputs that `make-vote` has to answer with a vote.
use Rattle.std.specs.Prelude.{◌≡◌, ◌⊎◌, ℕ, ◌≤◌, false, List, length, All, Ok, Err}
use Rattle.key_port.specs.{Answers.{Relation, Rules}, Signing.{SignerSteps, signature_limit}}
use Rattle.authority_certs.specs.{Checks.{IsCertified, certifies, crosscertifies}, declared.cert.Cert.Cert}
use Rattle.descriptor_doc.specs.{Checks.{is_ed_refused, signs}, Families.are_families_refused}
use Rattle.descriptor_doc.specs.declared.descriptor.Descriptor.{Descriptor}
use Rattle.count_terms.specs.declared.newest.Newest.{Newest}
use Rattle.flag_rules.specs.{Rules.{AreAllowed, list_allows}, declared.ruling.Ruling.Ruling}
use Rattle.vote_text.specs.Made.{made_text}
use Rattle.station_input.specs.{Reading.station_of, declared.facts.StationFacts.StationFacts}
use Rattle.vote_maker.specs.Made.{Basis, made, relays_in, with_signature}
use Rattle.vote_terms.specs.Votes.{max_vote}
use Rattle.station_commands.specs.Voting.{IsBasisOf, MakeVoteAnswers}
use Rattle.station_commands.specs.declared.refusal.MakeVoteRefusal.{MakeVoteRefusal}
use Rattle.station_commands.specs.{declared.file_refusal.FileVoteRefusal.FileVoteRefusal, FileTold.by_vote}
use Rattle.station_commands.specs.WithFile.{BeginsWithFile, FileVoteAnswers, station_behind}
use Rattle.station_commands.specs.declared.refusal.MakeVoteRefusal.TheVariants as refusal
use Rattle.bandwidth_file.specs.declared.file.BandFile.{BandFile}

-- No signature of the descriptor may be refused, and its Ed25519 certificate, if it has one, has not expired; nor may one of
-- its families be refused.
pub record IsNotRefused (rules : Rules) (d : Descriptor) : Type 0 where
  pub signed : signs rules.may_refuse d ≡ false
  pub ed_signed : is_ed_refused rules d.published d.identity_ed25519 d.router_sig_ed25519 ≡ false
  pub families : are_families_refused rules d.published d.identity_ed25519 d.family_certs ≡ false

-- The certificate holds at a moment, and neither of its signatures may be refused.
pub record HoldsAt (rules : Rules) (at : ℕ) (cert : Cert) : Type 0 where
  pub certified : IsCertified rules at cert
  pub certification : certifies rules.may_refuse cert ≡ false
  pub crosscert : crosscertifies rules.may_refuse cert ≡ false

-- the vote of this basis under the rules of the station's operator, with any signature, is no longer than a vote may be
abbrev pub IsShort : Basis → Type 0
IsShort its = (rulings : List Ruling) (signature : List ℕ)
    → AreAllowed (list_allows its.station.rules) (relays_in its) rulings → length signature ≤ signature_limit
    → length (made_text (with_signature (made its rulings) signature) its.station.certificate_bytes) ≤ max_vote

-- A vote can be made at a moment for a station that is given this, of the descriptors that stand in the input from a place
-- on: it has a basis, no signature of its descriptors or of the own certificate may be refused, that certificate holds when
-- the period begins, and the vote is no longer than it may be.
pub record CanVote (rules : Rules) (now : ℕ) (given : StationFacts) (used : ℕ) (bytes : List ℕ) : Type 0 where
  pub its : Basis
  pub basis : IsBasisOf rules now given used bytes its
  pub none_refused : All (IsNotRefused rules) basis.has_pool.pool_of.descriptors
  pub holds : HoldsAt rules its.valid_after its.station.certificate
  pub short : IsShort its

-- The input begins with what a station is given, for which a vote can be made of what stands behind it.
pub record CanMakeVote (rules : Rules) (newest : Newest) (now : ℕ) (bytes : List ℕ) : Type 0 where
  pub given : StationFacts
  pub used : ℕ
  pub read : station_of newest bytes ≡ Ok (given, used)
  pub can : CanVote rules now given used bytes

-- The input begins with a bandwidth file that is not too old at the moment, and behind it with what a station is given, for
-- which, with the bandwidths of the file, a vote can be made of what follows.
pub record CanMakeVoteWithFile (rules : Rules) (newest : Newest) (now : ℕ) (bytes : List ℕ) : Type 0 where
  pub file : BandFile
  pub start : ℕ
  pub begins : BeginsWithFile bytes now file start
  pub given : StationFacts
  pub used : ℕ
  pub read : station_behind newest file start bytes ≡ Ok (given, used)
  pub can : CanVote rules now given used bytes

-- it is the verifier's or the signer's
abbrev pub IsOfKeys : MakeVoteRefusal → Type 0
IsOfKeys why = (why ≡ refusal.Verifier) ⊎ (why ≡ refusal.Signer)

-- so is one of an input with a bandwidth file in front
abbrev pub IsOfKeysBehind : FileVoteRefusal → Type 0
IsOfKeysBehind why = (own : MakeVoteRefusal) × (why ≡ by_vote own) × IsOfKeys own

-- an input that a vote can be made of at a moment is refused only where the verifier or the signer failed
abbrev pub SuchAreNotRefused : {N : Type 0} → Relation → SignerSteps N → Type 0
SuchAreNotRefused {N} gives steps = (rules : Rules) (newest : Newest) (now : ℕ) (bytes : List ℕ) (old new : N)
    (why : MakeVoteRefusal) → CanMakeVote rules newest now bytes
    → MakeVoteAnswers rules gives steps newest now bytes (Err why) old new → IsOfKeys why

-- the same of an input with a bandwidth file in front
abbrev pub SuchFilesAreNotRefused : {N : Type 0} → Relation → SignerSteps N → Type 0
SuchFilesAreNotRefused {N} gives steps = (rules : Rules) (newest : Newest) (now : ℕ) (bytes : List ℕ) (old new : N)
    (why : FileVoteRefusal) → CanMakeVoteWithFile rules newest now bytes
    → FileVoteAnswers rules gives steps newest now bytes (Err why) old new → IsOfKeysBehind why
