-- The first fault of a consensus, of a microdescriptor and of a certificate stands within its bytes.
use Rattle.std.proofs.Common.{◌≡◌, ℕ, ◌≤◌, List, length, Result, Ok, Err, refl, ap, ◌∙◌}
use Rattle.item_terms.specs.Items.{items_of}
use Rattle.frame_terms.specs.declared.fault.{FrameFault.FrameFault, ReadRefusal.{ReadRefusal, TheVariants.Frame}}
use Rattle.frame_terms.specs.Documents.{Document, document_of, finish}
use Rattle.frame_values.specs.declared.values.Value.{Value}
use Rattle.authority_certs.specs.Heads as cert_heads
use Rattle.authority_certs.specs.{Reading.{max_cert, with_cert}, Tables.cert_tables}
use Rattle.micro_desc.specs.Heads as micro_heads
use Rattle.micro_desc.specs.{Reading.{max_micro, with_micro}, Tables.micro_tables, declared.said.MicroValue.MicroValue}
use Rattle.consensus_terms.specs.declared.flavour.Flavour.{Flavour}
use Rattle.consensus_frame.specs.{Tables.consensus_tables, declared.rows.ConsensusSection.ConsensusSection}
use Rattle.consensus_frame.specs.declared.value.ConsensusValue.{ConsensusValue}
use Rattle.consensus_doc.specs.{Drafts.{no_draft, with_section}, Reading.{consensus_as, flavour_of, max_consensus}}
use Rattle.consensus_doc.specs.Reading.{with_consensus}
use Rattle.document_faults.specs.Within.{CertFaultsStandWithin, ConsensusFaultsStandWithin, MicroFaultsStandWithin}
use Rattle.document_faults.proofs.{CertificatePlaces.cert_faults, ConsensusPlaces.consensus_faults}
use Rattle.document_faults.proofs.MicroPlaces.{micro_faults}

abbrev refused : {A : Type 0} → ReadRefusal → Result A ReadRefusal
refused refusal = Err refusal

pub cert_within : CertFaultsStandWithin
cert_within bytes fault is = by (document_of cert_tables (length bytes) (items_of max_cert bytes)) refl is
  where
    by : (read : Result (Document (Unit {0}) (Value (Unit {0}))) ReadRefusal)
        → document_of cert_tables (length bytes) (items_of max_cert bytes) ≡ read
        → with_cert bytes (finish cert_heads.head_with cert_heads.no_head read) ≡ Err (Frame fault)
        → fault.place ≤ length bytes
    by (Ok document) there e = absurd (cc e)
    by (Err refusal) there e =
        let same : refusal ≡ Frame fault = cc e in
        cert_faults max_cert bytes fault (there ∙ ap refused same)

pub micro_within : MicroFaultsStandWithin
micro_within bytes fault is = by (document_of micro_tables (length bytes) (items_of max_micro bytes)) refl is
  where
    by : (read : Result (Document (Unit {0}) (Value MicroValue)) ReadRefusal)
        → document_of micro_tables (length bytes) (items_of max_micro bytes) ≡ read
        → with_micro bytes (finish micro_heads.head_with micro_heads.no_head read) ≡ Err (Frame fault)
        → fault.place ≤ length bytes
    by (Ok document) there e = absurd (cc e)
    by (Err refusal) there e =
        let same : refusal ≡ Frame fault = cc e in
        micro_faults max_micro bytes fault (there ∙ ap refused same)

consensus_by : (flavour : Flavour) (bytes : List ℕ) (fault : FrameFault) → consensus_as flavour bytes ≡ Err (Frame fault)
    → fault.place ≤ length bytes
consensus_by flavour bytes fault is =
    by (document_of (consensus_tables flavour) (length bytes) (items_of max_consensus bytes)) refl is
  where
    by : (read : Result (Document ConsensusSection (Value ConsensusValue)) ReadRefusal)
        → document_of (consensus_tables flavour) (length bytes) (items_of max_consensus bytes) ≡ read
        → with_consensus flavour (finish (with_section flavour bytes) no_draft read) ≡ Err (Frame fault)
        → fault.place ≤ length bytes
    by (Ok document) there e = absurd (cc e)
    by (Err refusal) there e =
        let same : refusal ≡ Frame fault = cc e in
        consensus_faults flavour max_consensus bytes fault (there ∙ ap refused same)

pub consensus_within : ConsensusFaultsStandWithin
consensus_within bytes fault is = consensus_by (flavour_of (items_of max_consensus bytes).items) bytes fault is
