-- What the calls of a mirror answer, and what it holds then.
use Rattle.std.specs.Prelude.{◌≡◌, ◌⊎◌, ℕ, ◌+◌, ◌≤◌, nat_lt, nat_eq, ◌&&◌, ◌||◌, Bool, true, false, List, [], ◌∷◌, ◌++◌}
use Rattle.std.specs.{Prelude.{length, filter, Option, Some, None, Result, Ok, Err}, List.{find, flat_map}}
use Rattle.count_terms.specs.Counts.{over}
use Rattle.dir_values.specs.{Digests.{bytes_below, identity_below, same_identity}, Rosters.has_member}
use Rattle.dir_values.specs.declared.digest.Fingerprint.{Fingerprint}
use Rattle.frame_terms.specs.declared.fault.FrameFault.{FrameFault}
use Rattle.frame_terms.specs.declared.fault.ReadRefusal.TheVariants as read
use Rattle.blank_lines.specs.Behind.{fault_behind}
use Rattle.key_port.specs.Answers.{Rules}
use Rattle.authority_certs.specs.{Checks.Checks, Reading.cert_of, declared.cert.Cert.Cert}
use Rattle.authority_certs.specs.declared.checking.CertAnswer.{CertAnswer}
use Rattle.authority_certs.specs.declared.checking.CertAnswer.TheVariants as checked
use Rattle.consensus_doc.specs.Reading.{consensus_of}
use Rattle.consensus_terms.specs.declared.{consensus.SignedConsensus.SignedConsensus, flavour.Flavour.TheVariants.Ns}
use Rattle.consensus_terms.specs.declared.flavour.Flavour.TheVariants.{Microdesc}
use Rattle.detached_sigs.specs.declared.key.SignerKey.{SignerKey}
use Rattle.micro_desc.specs.{Reading.micro_of, declared.micro.Micro.Micro}
use Rattle.mirror_core.specs.Rows as shelf
use Rattle.mirror_core.specs.{Rows.{Rows, rows_of, rows_after, taking_outcome}, declared.taken.Taken.Taken}
use Rattle.mirror_core.specs.declared.{refusal.MirrorRefusal.MirrorRefusal, report.CertReport.CertReport}
use Rattle.mirror_core.specs.{declared.report.MicroReport.MicroReport, Extent.{begin_of, consensus_part}, Inputs.AreAll}
use Rattle.mirror_core.specs.{Inputs.FailsWith, Signers.{AreSignersOf, keys_of}, States.{HeldConsensus, KeptCert}}
use Rattle.mirror_core.specs.States.{Mirrored, named, named_by}
use Rattle.mirror_core.specs.Wanting as wanting
use Rattle.mirror_core.specs.declared.taken.Taken.TheVariants as taken
use Rattle.mirror_core.specs.declared.refusal.MirrorRefusal.TheVariants as refusal

-- ---- certificates

-- whether a certificate is greater than another, by (published, covered)
abbrev pub is_greater : Cert → Cert → Bool
is_greater new held =
    nat_lt held.published new.published
    || (nat_eq held.published new.published && bytes_below held.covered.0 new.covered.0)

-- the certificate that is kept of an authority, if one is
abbrev pub cert_for : List KeptCert → Fingerprint → Option KeptCert
cert_for certs authority = find (λ (kept : KeptCert). same_identity kept.cert.fingerprint authority) certs

-- whether a certificate comes after the one that is kept, if one is
abbrev pub is_later : Option KeptCert → Cert → Bool
is_later None new = true
is_later (Some kept) new = is_greater new kept.cert

-- whether a certificate is to be checked: it is of a member, and comes after the one that is kept
abbrev pub is_looked_at : List Fingerprint → List KeptCert → Cert → Bool
is_looked_at roster certs new = has_member roster new.fingerprint && is_later (cert_for certs new.fingerprint) new

-- certificates with one more, in place of the other of its authority
abbrev pub with_cert : List KeptCert → KeptCert → List KeptCert
with_cert certs new =
    filter (λ (kept : KeptCert). identity_below kept.cert.fingerprint new.cert.fingerprint) certs
    ++ new ∷ filter (λ (kept : KeptCert). identity_below new.cert.fingerprint kept.cert.fingerprint) certs

-- certificates, and what came of those that were taken so far
pub record CertTally : Type 0 where
  pub certs : List KeptCert
  pub report : CertReport

-- with one more of each kind
abbrev pub skips : CertTally → CertTally
skips tally = record tally { report = record tally.report { skipped = tally.report.skipped + 1 } }

abbrev pub refuses : CertTally → CertTally
refuses tally = record tally { report = record tally.report { refused = tally.report.refused + 1 } }

abbrev pub keeps : CertTally → KeptCert → CertTally
keeps tally new = record {
  certs = with_cert tally.certs new;
  report = record tally.report { kept = tally.report.kept + 1 };
}

-- a certificate as it is kept
abbrev pub as_kept : Cert × List ℕ → KeptCert
as_kept (cert, bytes) = record { cert = cert; bytes = bytes }

-- by what checking it answered: it is kept, or refused; not where the verifier failed
abbrev pub TakesChecked : CertTally → KeptCert → CertAnswer → CertTally → Type 0
TakesChecked before new checked.Checked after = after ≡ keeps before new
TakesChecked before new checked.VerifierFault after = ⊥
TakesChecked before new answer after = after ≡ refuses before

-- one certificate: it is skipped, or checked
abbrev pub TakesCert : Rules → List Fingerprint → ℕ → CertTally → KeptCert → CertTally → Type 0
TakesCert rules roster now before new after =
    ((is_looked_at roster before.certs new.cert ≡ false) × (after ≡ skips before))
    ⊎ ((is_looked_at roster before.certs new.cert ≡ true)
    × (answer : CertAnswer) × Checks rules now new.cert answer × TakesChecked before new answer after)

-- certificates, one after the other
abbrev pub TakesEach : Rules → List Fingerprint → ℕ → CertTally → List (Cert × List ℕ) → CertTally → Type 0
TakesEach rules roster now before [] after = after ≡ before
TakesEach rules roster now before (one ∷ more) after =
    (between : CertTally) × TakesCert rules roster now before (as_kept one) between
    × TakesEach rules roster now between more after

-- what came of none
abbrev pub no_certs_yet : List KeptCert → CertTally
no_certs_yet certs = record { certs = certs; report = record { kept = 0; skipped = 0; refused = 0 } }

-- The certificates that an input is were taken.
pub record TakesCerts (rules : Rules) (now : ℕ) (before : Mirrored) (bytes : List ℕ) (report : CertReport)
    (after : Mirrored) : Type 0 where
  pub certs : List (Cert × List ℕ)
  pub tally : CertTally
  pub reads : AreAll cert_of bytes certs
  pub takes : TakesEach rules before.roster now (no_certs_yet before.certs) certs tally
  pub report_is : report ≡ tally.report
  pub after_is : after ≡ record before { certs = tally.certs }

-- why no certificates were taken
abbrev pub CertsRefused : List ℕ → MirrorRefusal → Type 0
CertsRefused bytes (refusal.Document fault) = FailsWith cert_of bytes fault
CertsRefused bytes refusal.VerifierFault = (certs : List (Cert × List ℕ)) × AreAll cert_of bytes certs
CertsRefused bytes refusal.Memory = Unit {0}
CertsRefused bytes refusal.WrongFlavour = ⊥
CertsRefused bytes (refusal.Older held) = ⊥
CertsRefused bytes (refusal.TooFewSigners counted_report roster) = ⊥

-- what taking certificates answers
abbrev pub AnswersCerts : Rules → ℕ → Mirrored → List ℕ → Result CertReport MirrorRefusal → Mirrored → Type 0
AnswersCerts rules now before bytes (Ok report) after = TakesCerts rules now before bytes report after
AnswersCerts rules now before bytes (Err why) after = CertsRefused bytes why × (after ≡ before)

-- the certificates that are kept, one behind the other
abbrev pub certs_text : Mirrored → List ℕ
certs_text mirror = flat_map (λ (kept : KeptCert). kept.bytes) mirror.certs

-- ---- the consensus

-- when the held consensus is valid from, where one is held
abbrev pub held_from : Option HeldConsensus → Option ℕ
held_from None = None
held_from (Some held) = Some held.consensus.facts.valid_after

-- whether a moment is after the one from which the held consensus is valid, if one is held
abbrev pub is_after : Option ℕ → ℕ → Bool
is_after None valid_after = true
is_after (Some held) valid_after = nat_lt held valid_after

-- whether a consensus is valid from a later moment than the one that is held, if one is
abbrev pub is_newer : Option ℕ → SignedConsensus → Bool
is_newer held consensus = is_after held consensus.facts.valid_after

-- The bytes are this consensus, of the microdesc flavour.
pub record IsMicrodesc (bytes : List ℕ) (consensus : SignedConsensus) : Type 0 where
  pub used : ℕ
  pub reads : consensus_of bytes ≡ Ok (consensus, used)
  pub flavour : consensus.flavour ≡ Microdesc

-- The bytes are this consensus, which is newer than the held one, and these signed it.
pub record IsSignedBy (rules : Rules) (before : Mirrored) (bytes : List ℕ) (consensus : SignedConsensus)
    (signers : List SignerKey) : Type 0 where
  pub microdesc : IsMicrodesc bytes consensus
  pub newer : is_newer (held_from before.held) consensus ≡ true
  pub signers_are : AreSignersOf rules (keys_of before.certs) bytes consensus signers

-- what is held once a consensus is taken: it, and of the microdescriptors that were held those that it names
abbrev pub with_consensus : Mirrored → HeldConsensus → Mirrored
with_consensus before new = record before { held = Some new; rows = rows_of before.rows (named new.consensus) }

-- The consensus that the bytes are was taken: more than half of the roster signed it.
pub record TakesConsensus (rules : Rules) (before : Mirrored) (bytes : List ℕ) (count : ℕ) (after : Mirrored)
    : Type 0 where
  pub consensus : SignedConsensus
  pub signers : List SignerKey
  pub signed : IsSignedBy rules before bytes consensus signers
  pub count_is : count ≡ length signers
  pub majority : over count (length before.roster) ≡ true
  pub after_is : after ≡ with_consensus before (record { bytes = bytes; consensus = consensus; signers = signers })

-- It was not: these signed it, who are no more than half.
pub record IsSignedByFew (rules : Rules) (before : Mirrored) (bytes : List ℕ) (counted_report roster : ℕ) : Type 0 where
  pub consensus : SignedConsensus
  pub signers : List SignerKey
  pub signed : IsSignedBy rules before bytes consensus signers
  pub counted_is : counted_report ≡ length signers
  pub roster_is : roster ≡ length before.roster
  pub few : over counted_report roster ≡ false

-- why the bytes that stand in an input from a place on were not taken; each but want of memory only where those before it do
-- not apply
abbrev pub ConsensusRefused : Rules → Mirrored → ℕ → List ℕ → MirrorRefusal → Type 0
ConsensusRefused rules before begin bytes (refusal.Document fault) =
    (found : FrameFault) × (consensus_of bytes ≡ Err (read.Frame found)) × (fault ≡ fault_behind begin found)
ConsensusRefused rules before begin bytes refusal.WrongFlavour =
    (consensus : SignedConsensus) × (used : ℕ) × (consensus_of bytes ≡ Ok (consensus, used)) × (consensus.flavour ≡ Ns)
ConsensusRefused rules before begin bytes (refusal.Older held) =
    (consensus : SignedConsensus) × IsMicrodesc bytes consensus × (held_from before.held ≡ Some held)
    × (consensus.facts.valid_after ≤ held)
ConsensusRefused rules before begin bytes refusal.VerifierFault =
    (consensus : SignedConsensus) × IsMicrodesc bytes consensus × (is_newer (held_from before.held) consensus ≡ true)
ConsensusRefused rules before begin bytes (refusal.TooFewSigners counted_report roster) =
    IsSignedByFew rules before bytes counted_report roster
ConsensusRefused rules before begin bytes refusal.Memory = Unit {0}

-- what taking a consensus answers: of an input its consensus is taken, and what stands before it and behind it passed over
abbrev pub AnswersConsensus : Rules → Mirrored → List ℕ → Result ℕ MirrorRefusal → Mirrored → Type 0
AnswersConsensus rules before bytes (Ok count) after = TakesConsensus rules before (consensus_part bytes) count after
AnswersConsensus rules before bytes (Err why) after =
    ConsensusRefused rules before (begin_of bytes) (consensus_part bytes) why × (after ≡ before)

-- the bytes of the held consensus
abbrev pub consensus_text : Mirrored → Option (List ℕ)
consensus_text mirror = bytes_of mirror.held
  where
    bytes_of : Option HeldConsensus → Option (List ℕ)
    bytes_of None = None
    bytes_of (Some held) = Some held.bytes

-- ---- microdescriptors

-- rows, and what came of the microdescriptors that were taken so far
pub record MicroTally : Type 0 where
  pub rows : Rows
  pub report : MicroReport

-- a report with one more
abbrev pub counted_report : MicroReport → Taken → MicroReport
counted_report report taken.Kept = record report { kept = report.kept + 1 }
counted_report report taken.Had = record report { had = report.had + 1 }
counted_report report taken.Unwanted = record report { unwanted = report.unwanted + 1 }

-- after one microdescriptor
abbrev pub with_micro : MicroTally → List ℕ → MicroTally
with_micro tally text = record {
  rows = rows_after tally.rows text;
  report = counted_report tally.report (taking_outcome tally.rows text);
}

-- after microdescriptors, one after the other
abbrev pub with_micros : MicroTally → List (Micro × List ℕ) → MicroTally
with_micros tally [] = tally
with_micros tally (one ∷ more) = with_micros (with_micro tally one.1) more

-- what came of none
abbrev pub no_micros_yet : Rows → MicroTally
no_micros_yet rows = record { rows = rows; report = record { kept = 0; had = 0; unwanted = 0 } }

-- The microdescriptors that an input is were taken.
pub record TakesMicros (before : Mirrored) (bytes : List ℕ) (report : MicroReport) (after : Mirrored) : Type 0 where
  pub micros : List (Micro × List ℕ)
  pub reads : AreAll micro_of bytes micros
  pub report_is : report ≡ (with_micros (no_micros_yet before.rows) micros).report
  pub after_is : after ≡ record before { rows = (with_micros (no_micros_yet before.rows) micros).rows }

-- why no microdescriptors were taken
abbrev pub MicrosRefused : List ℕ → MirrorRefusal → Type 0
MicrosRefused bytes (refusal.Document fault) = FailsWith micro_of bytes fault
MicrosRefused bytes refusal.Memory = Unit {0}
MicrosRefused bytes refusal.WrongFlavour = ⊥
MicrosRefused bytes (refusal.Older held) = ⊥
MicrosRefused bytes refusal.VerifierFault = ⊥
MicrosRefused bytes (refusal.TooFewSigners counted_report roster) = ⊥

-- what taking microdescriptors answers
abbrev pub AnswersMicros : Mirrored → List ℕ → Result MicroReport MirrorRefusal → Mirrored → Type 0
AnswersMicros before bytes (Ok report) after = TakesMicros before bytes report after
AnswersMicros before bytes (Err why) after = MicrosRefused bytes why × (after ≡ before)

-- the microdescriptor with a digest, if it is held
abbrev pub micro_with : Mirrored → List ℕ → Option (List ℕ)
micro_with mirror digest = shelf.micro_of mirror.rows digest

-- the first 92 digests, in the consensus's order, that it names and whose microdescriptor is not held
abbrev pub wanted_digests : Mirrored → List (List ℕ)
wanted_digests mirror = wanting.first_missing mirror.rows (named_by mirror.held)
