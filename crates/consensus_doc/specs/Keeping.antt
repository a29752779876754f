-- What a reader keeps of a consensus: its flavour, its bytes, and what they said so far.
use Rattle.std.specs.Prelude.{ℕ, List}
use Rattle.frame_terms.specs.declared.document.Taken.{Taken}
use Rattle.frame_values.specs.declared.values.Value.{Value}
use Rattle.consensus_terms.specs.declared.flavour.Flavour.{Flavour}
use Rattle.consensus_frame.specs.declared.{rows.ConsensusSection.ConsensusSection, value.ConsensusValue.ConsensusValue}
use Rattle.consensus_doc.specs.{declared.draft.Draft.Draft, Drafts.with_section}

-- the bytes of a document of a flavour, and what was kept of its sections
pub record Kept : Type 0 where
  pub flavour : Flavour
  pub bytes : List ℕ
  pub draft : Draft

-- with another draft
abbrev pub with_draft : Kept → Draft → Kept
with_draft kept draft = record { flavour = kept.flavour; bytes = kept.bytes; draft = draft }

-- after one more section
abbrev pub kept_with_section : Kept → ConsensusSection → List (Taken (Value ConsensusValue)) → Kept
kept_with_section kept section taken = with_draft kept (with_section kept.flavour kept.bytes kept.draft section taken)
