-- What is named is not refused.
use Rattle.std.proofs.Common.{◌≡◌, ℕ, List, None, Some, Err}
use Rattle.item_terms.specs.Lines.{lines}
use Rattle.bandwidth_file.specs.{Files.first_fault, declared.refusal.BandFault.BandFault}
use Rattle.daemon_words.specs.declared.{command.{Kind.Kind, Subject.Subject}, stop.DocumentRefusal.DocumentRefusal}
use Rattle.daemon_words.specs.declared.command.Subject.TheVariants as subject
use Rattle.document_commands.specs.Answers.{CheckAnswers, IsDocument, IsSubject, ReadAnswers, ShowAnswers}
use Rattle.document_commands.specs.{Answers.{canonical_text, check_text}, Documents.{Document, document_of}}
use Rattle.document_commands.specs.declared.refusal.SubjectRefusal.{SubjectRefusal}

document_not_refused : (text_of : Document → List ℕ) (kind : Kind) (bytes : List ℕ) (why : DocumentRefusal)
    → IsDocument kind bytes → ReadAnswers text_of kind (document_of kind bytes) (Err why) → ⊥
document_not_refused text_of kind bytes why can answer = cc (can.read, answer.1)

file_not_refused : (bytes : List ℕ) (fault : BandFault) → first_fault (lines bytes) ≡ None
    → first_fault (lines bytes) ≡ Some fault → ⊥
file_not_refused bytes fault can answer = cc (can, answer)

pub check_not_refused : (named : Subject) (bytes : List ℕ) (why : SubjectRefusal) → IsSubject named bytes
    → CheckAnswers named bytes (Err why) → ⊥
check_not_refused (subject.Document kind) bytes why can (own, told, answer) =
    document_not_refused check_text kind bytes own can answer
check_not_refused subject.BandwidthFile bytes why can (own, told, answer) = file_not_refused bytes own can answer

pub show_not_refused : (named : Subject) (bytes : List ℕ) (why : SubjectRefusal) → IsSubject named bytes
    → ShowAnswers named bytes (Err why) → ⊥
show_not_refused (subject.Document kind) bytes why can (own, told, answer) =
    document_not_refused canonical_text kind bytes own can answer
show_not_refused subject.BandwidthFile bytes why can (own, told, answer) = file_not_refused bytes own can answer
