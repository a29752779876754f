-- What the commands over one document answer to an input.
use Rattle.std.specs.Prelude.{◌≡◌, ℕ, List, [], ◌∷◌, codes, ◌++◌, None, Result, Ok, Err}
use Rattle.item_terms.specs.{Bytes.line_feed, Lines.lines}
use Rattle.frame_terms.specs.declared.fault.ReadRefusal.{ReadRefusal, TheVariants.Frame}
use Rattle.authority_certs.specs.Texts.{cert_text}
use Rattle.vote_text.specs.Texts.{vote_text}
use Rattle.consensus_terms.specs.{Signed.signed, Texts.facts_text}
use Rattle.descriptor_text.specs.Texts.{descriptor_text}
use Rattle.detached_doc.specs.Texts.{detached_text}
use Rattle.micro_desc.specs.Texts.{micro_text}
use Rattle.bandwidth_file.specs.{Files.first_fault, declared.refusal.BandFault.BandFault}
use Rattle.bandwidth_file.specs.Texts as file
use Rattle.daemon_words.specs.declared.{command.{Kind.Kind, Subject.Subject}, stop.DocumentRefusal.DocumentRefusal}
use Rattle.daemon_words.specs.{declared.stop.Stop.Stop, Stops.{AnsweredAs, told_as}}
use Rattle.daemon_words.specs.declared.command.Subject.TheVariants as subject
use Rattle.document_commands.specs.{BandwidthFiles.FileAnswers, declared.refusal.SubjectRefusal.SubjectRefusal}
use Rattle.document_commands.specs.Documents.{Document, cert, consensus, descriptor, detached, document_of, micro, vote}
use Rattle.document_commands.specs.declared.refusal.SubjectRefusal.TheVariants as refusal

-- A document was read, and the text is that of it.
pub record Tells {D : Type 0} (text_of : D → List ℕ) (read : Result D ReadRefusal) (text : List ℕ) : Type 0 where
  pub document : D
  pub is : read ≡ Ok document
  pub written : text ≡ text_of document

-- what a command answers that tells something of what was read: a text, or the first fault
abbrev pub ReadAnswers : {D : Type 0} → (D → List ℕ) → Kind → Result D ReadRefusal → Result (List ℕ) DocumentRefusal
    → Type 0
ReadAnswers text_of kind read (Ok text) = Tells text_of read text
ReadAnswers text_of kind read (Err why) = (why.kind ≡ kind) × (read ≡ Err (Frame why.fault))

-- what `check` says of a document that is one
abbrev pub check_text : {D : Type 0} → D → List ℕ
check_text document = codes "ok" ++ line_feed ∷ []

-- the canonical text of a document: a line for each kind
abbrev pub canonical_text : Document → List ℕ
canonical_text (vote read) = vote_text read.says
canonical_text (cert read) = cert_text read
canonical_text (consensus read) = signed (facts_text read) read.signatures
canonical_text (descriptor read) = descriptor_text read
canonical_text (micro read) = micro_text read
canonical_text (detached read) = detached_text read

-- that the input is no document, or no bandwidth file
abbrev pub by_document : DocumentRefusal → SubjectRefusal
by_document why = refusal.Document why

abbrev pub of_document : Stop DocumentRefusal → Stop SubjectRefusal
of_document given = told_as by_document given

abbrev pub by_file : BandFault → SubjectRefusal
by_file fault = refusal.File fault

abbrev pub of_file : Stop BandFault → Stop SubjectRefusal
of_file given = told_as by_file given

-- what `check` answers
abbrev pub CheckAnswers : Subject → List ℕ → Result (List ℕ) SubjectRefusal → Type 0
CheckAnswers (subject.Document kind) bytes answer =
    AnsweredAs by_document (ReadAnswers check_text kind (document_of kind bytes)) answer
CheckAnswers subject.BandwidthFile bytes answer = AnsweredAs by_file (FileAnswers check_text bytes) answer

-- what `show` answers
abbrev pub ShowAnswers : Subject → List ℕ → Result (List ℕ) SubjectRefusal → Type 0
ShowAnswers (subject.Document kind) bytes answer =
    AnsweredAs by_document (ReadAnswers canonical_text kind (document_of kind bytes)) answer
ShowAnswers subject.BandwidthFile bytes answer = AnsweredAs by_file (FileAnswers file.text_of bytes) answer

-- The input is one document of this kind.
pub record IsDocument (kind : Kind) (bytes : List ℕ) : Type 0 where
  pub document : Document
  pub read : document_of kind bytes ≡ Ok document

-- the input is what is named: `check` and `show` have to answer it with a text
abbrev pub IsSubject : Subject → List ℕ → Type 0
IsSubject (subject.Document kind) bytes = IsDocument kind bytes
IsSubject subject.BandwidthFile bytes = first_fault (lines bytes) ≡ None
