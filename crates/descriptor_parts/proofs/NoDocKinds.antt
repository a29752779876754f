-- The tables of each of these kinds of documents refuse no item as a line or an object is refused.
use Rattle.std.proofs.Common.{ℕ, Result, Ok, Err}
use Rattle.frame_terms.specs.declared.fault.FrameFault.{FrameFault}
use Rattle.frame_values.specs.declared.values.Value.{Value}
use Rattle.frame_values.specs.declared.values.Value.TheVariants as value
use Rattle.relay_entries.specs.{declared.listed.Listed.Listed, Listing.note_entry}
use Rattle.consensus_frame.specs.declared.across.Across as consensus_across
use Rattle.consensus_frame.specs.declared.value.ConsensusValue.{ConsensusValue}
use Rattle.consensus_frame.specs.declared.value.ConsensusValue.TheVariants as listed
use Rattle.consensus_frame.specs.Tables as consensus
use Rattle.descriptor_frame.specs.Lines as descriptor
use Rattle.detached_frame.specs.Tables as detached
use Rattle.micro_desc.specs.Lines as micro
use Rattle.document_laws.specs.Known.{IsNoDoc}
use Rattle.descriptor_parts.specs.Kinds.{KindsHaveNoDoc}
use Rattle.vote_kinds.proofs.NoDocItems.{entry, placed}

-- ---- consensuses

listed_too : (before : consensus_across.Across) (noted : Result Listed FrameFault) → IsNoDoc noted
    → IsNoDoc (consensus.with_listed before noted)
listed_too before (Ok listed) h = tt
listed_too before (Err fault) h = h

consensus_note : (before : consensus_across.Across) (place : ℕ) (text : Value ConsensusValue)
    → IsNoDoc (consensus.note_value before place text)
consensus_note before place value.Nothing = tt
consensus_note before place (value.Text span) = tt
consensus_note before place (value.Number number) = tt
consensus_note before place (value.Fingerprint identity) = tt
consensus_note before place (value.Object span) = tt
consensus_note before place (value.Own (listed.Delays one other)) = tt
consensus_note before place (value.Own (listed.Source source)) = tt
consensus_note before place (value.Own (listed.Random value)) = tt
consensus_note before place (value.Own (listed.VoteDigest digest)) = tt
consensus_note before place (value.Own (listed.Bandwidth bandwidth)) = tt
consensus_note before place (value.Own (listed.MicroDigest digest)) = tt
consensus_note before place (value.Own (listed.Signature signature)) = tt
consensus_note before place (value.Own (listed.Entry text)) =
    listed_too before (note_entry before.listed place text) (entry before.listed place text)

-- ---- each kind

pub kinds_have_no_doc : KindsHaveNoDoc
kinds_have_no_doc = record {
  consensuses = λ flavour. record {
    values = λ across kind item. placed (consensus.value_at flavour across kind item);
    notes = λ across one. consensus_note across one.place one.value;
  };
  descriptors = record {
    values = λ across kind item. placed (descriptor.value_at kind item);
    notes = λ across one. tt;
  };
  microdescriptors = record {
    values = λ across kind item. placed (micro.value_at kind item);
    notes = λ across one. tt;
  };
  detached_signatures = record {
    values = λ across kind item. placed (detached.value_at kind item);
    notes = λ across one. tt;
  };
}
