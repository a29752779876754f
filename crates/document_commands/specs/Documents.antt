-- The document that an input is: one, with nothing but blank lines before and after it.
use Rattle.std.specs.Prelude.{ℕ, List, Option, Some, None, Result, Ok, Err}
use Rattle.frame_terms.specs.declared.fault.{FrameReason.TheVariants.Order, ReadRefusal.ReadRefusal}
use Rattle.frame_terms.specs.Refusals.{refusal_at}
use Rattle.authority_certs.specs.{declared.cert.Cert.Cert, Reading.cert_of}
use Rattle.vote_terms.specs.Votes.{ReadVote}
use Rattle.vote_doc.specs.Reading.{vote_of}
use Rattle.consensus_terms.specs.declared.consensus.SignedConsensus.{SignedConsensus}
use Rattle.consensus_doc.specs.Reading.{consensus_of}
use Rattle.descriptor_doc.specs.{declared.descriptor.Descriptor.Descriptor, Reading.descriptor_of}
use Rattle.detached_doc.specs.{declared.detached.Detached.Detached, Reading.detached_of}
use Rattle.micro_desc.specs.declared.micro.Micro.{Micro}
use Rattle.daemon_words.specs.declared.command.Kind.{Kind}
use Rattle.daemon_words.specs.declared.command.Kind.TheVariants as kind
use Rattle.blank_lines.specs.Blanks.{after_blanks}
use Rattle.document_commands.specs.NextMicro.{first_micro}

-- what was read: a line for each kind
pub data Document : Type 0 where
  vote : ReadVote → Document
  cert : Cert → Document
  consensus : SignedConsensus → Document
  descriptor : Descriptor → Document
  micro : Micro → Document
  detached : Detached → Document

-- what was read, unless another line stands at a place behind it: that line is out of order
abbrev pub unless_more : {X : Type 0} → X → Option ℕ → Result X ReadRefusal
unless_more document None = Ok document
unless_more document (Some place) = Err (refusal_at place Order)

-- what was read, where nothing but blank lines follows
abbrev pub whole : {X : Type 0} → List ℕ → Result (X × ℕ) ReadRefusal → Result X ReadRefusal
whole bytes (Ok (document, used)) = unless_more document (after_blanks used bytes)
whole bytes (Err refusal) = Err refusal

-- what was read, as a document
abbrev pub as_document : {X : Type 0} → (X → Document) → Result X ReadRefusal → Result Document ReadRefusal
as_document wrap (Ok read) = Ok (wrap read)
as_document wrap (Err refusal) = Err refusal

-- the document of a kind that the input is, or its first fault: a line for each kind
abbrev pub document_of : Kind → List ℕ → Result Document ReadRefusal
document_of kind.Vote bytes = as_document vote (whole bytes (vote_of bytes))
document_of kind.Cert bytes = as_document cert (whole bytes (cert_of bytes))
document_of kind.Consensus bytes = as_document consensus (whole bytes (consensus_of bytes))
document_of kind.Descriptor bytes = as_document descriptor (whole bytes (descriptor_of bytes))
document_of kind.Micro bytes = as_document micro (whole bytes (first_micro bytes))
document_of kind.Detached bytes = as_document detached (whole bytes (detached_of bytes))
