-- Why an input is refused as documents of a kind: the line and the number of each fault.
use Rattle.std.specs.Prelude.{ℕ, List, [], ◌∷◌, codes, decimal}
use Rattle.item_terms.specs.declared.fault.DocReason.{DocReason}
use Rattle.item_terms.specs.declared.fault.DocReason.TheVariants as doc
use Rattle.frame_terms.specs.{declared.fault.FrameReason.FrameReason, Keywords.text_of, Rows.{limit_name, limit_number}}
use Rattle.frame_terms.specs.declared.fault.FrameReason.TheVariants as reason
use Rattle.daemon_words.specs.declared.command.Kind.{Kind}
use Rattle.daemon_words.specs.declared.command.Kind.TheVariants as kind
use Rattle.exit_status.specs.Parts.{at_place, end}

-- the limit of a document of a kind, with its number: a line for each kind
abbrev pub document_limit : Kind → List ℕ
document_limit kind.Vote = codes "vote 16777216"
document_limit kind.Cert = codes "certificate 65536"
document_limit kind.Consensus = codes "consensus 67108864"
document_limit kind.Descriptor = codes "descriptor 65536"
document_limit kind.Micro = codes "microdescriptor 65536"
document_limit kind.Detached = codes "detached 1048576"

-- what is wrong with a line or an object of a document that has this limit; a limit with its number
abbrev pub doc_text : List ℕ → DocReason → List ℕ
doc_text limit doc.Keyword = codes "keyword"
doc_text limit doc.Nul = codes "nul"
doc_text limit doc.Unterminated = codes "unterminated"
doc_text limit doc.ObjectWords = codes "object words"
doc_text limit doc.ObjectBase64 = codes "object base64"
doc_text limit doc.ObjectEnd = codes "object end"
doc_text limit doc.LineTooLong = codes "line 1048576"
doc_text limit doc.DocumentTooLong = limit
doc_text limit doc.ObjectTooLong = codes "object 65536"

-- the same as the parts of a line, with the place of what is no limit
abbrev pub doc_parts : List ℕ → ℕ → DocReason → List (List ℕ)
doc_parts limit place doc.LineTooLong = codes "limit " ∷ doc_text limit doc.LineTooLong ∷ end ∷ []
doc_parts limit place doc.DocumentTooLong = codes "limit " ∷ doc_text limit doc.DocumentTooLong ∷ end ∷ []
doc_parts limit place doc.ObjectTooLong = codes "limit " ∷ doc_text limit doc.ObjectTooLong ∷ end ∷ []
doc_parts limit place other = at_place place (doc_text limit other) []

-- what is wrong with an item of a document that has this limit
abbrev pub fault_parts : List ℕ → ℕ → FrameReason → List (List ℕ)
fault_parts limit place (reason.Doc other) = doc_parts limit place other
fault_parts limit place (reason.Missing keyword) = at_place place (codes "missing ") (text_of keyword)
fault_parts limit place (reason.Twice keyword) = at_place place (codes "twice ") (text_of keyword)
fault_parts limit place reason.Order = at_place place (codes "order") []
fault_parts limit place (reason.TooMany what) =
    codes "limit " ∷ limit_name what ∷ codes " " ∷ decimal (limit_number what) ∷ end ∷ []
fault_parts limit place reason.Value = at_place place (codes "value") []
fault_parts limit place reason.Unsorted = at_place place (codes "unsorted") []
fault_parts limit place reason.DuplicateEd = at_place place (codes "duplicate ed25519") []

-- ---- numbers

-- the number of what is wrong with a line or an object
abbrev pub doc_number : DocReason → ℕ
doc_number doc.Keyword = 5
doc_number doc.Nul = 5
doc_number doc.Unterminated = 5
doc_number doc.ObjectWords = 5
doc_number doc.ObjectBase64 = 5
doc_number doc.ObjectEnd = 5
doc_number doc.LineTooLong = 9
doc_number doc.DocumentTooLong = 9
doc_number doc.ObjectTooLong = 9

-- 9 is a limit, and 5 any other fault
abbrev pub fault_number : FrameReason → ℕ
fault_number (reason.Doc other) = doc_number other
fault_number (reason.Missing keyword) = 5
fault_number (reason.Twice keyword) = 5
fault_number reason.Order = 5
fault_number (reason.TooMany limit) = 9
fault_number reason.Value = 5
fault_number reason.Unsorted = 5
fault_number reason.DuplicateEd = 5
