-- A document that has a fault, by its lines: those of the items before it, and then those that have the fault.
use Rattle.std.specs.Prelude.{◌≡◌, ◌↔◌, ℕ, ◌+◌, ◌<◌, Bool, true, false, ◌&&◌, List, [], ◌∷◌, ◌++◌, drop, Some, None}
use Rattle.item_terms.specs.declared.fault.{DocFault.DocFault, DocReason.TheVariants.{Keyword, ObjectWords}}
use Rattle.item_terms.specs.declared.fault.DocReason.TheVariants.{ObjectTooLong, ObjectEnd, ObjectBase64, Unterminated}
use Rattle.item_terms.specs.{Lines.{Line, lines, size}, Words.{is_blank_line, is_keyword_line, begins_dash}}
use Rattle.item_terms.specs.{Words.{begin_words, is_end_line}, Base64Text.is_body, Faults.{at, line_fault}}
use Rattle.item_terms.specs.{Faults.{object_line_fault, max_object}, Items.{Item, items_from}}
use Rattle.grammar_laws.specs.Blocks.{sizes, text_of, IsKeywordLine, IsBeginLine, IsEndLine, AreBodyLines}
use Rattle.grammar_laws.specs.Blocks.{AreLinesOfItems}

-- the fault of a line between items: the line is not sound, or it is neither a blank line nor a keyword line
pub data IsFaultBetween (limit place : ℕ) (line : Line) (fault : DocFault) : Type 0 where
  unsound : line_fault limit place line ≡ Some fault → IsFaultBetween limit place line fault
  neither : line_fault limit place line ≡ None → is_blank_line line.text ≡ false → is_keyword_line line.text ≡ false → fault ≡ at place Keyword → IsFaultBetween limit place line fault

-- the fault of a line that begins with '-' right after a keyword line: the line is not sound, or it is no BEGIN line, or a BEGIN
-- line that is longer than an object may be
pub data IsFaultOfBegin (limit place : ℕ) (line : Line) (fault : DocFault) : Type 0 where
  unsound : line_fault limit place line ≡ Some fault → IsFaultOfBegin limit place line fault
  no_begin : line_fault limit place line ≡ None → begin_words line.text ≡ None → fault ≡ at place ObjectWords → IsFaultOfBegin limit place line fault
  too_long : (words : List ℕ) → line_fault limit place line ≡ None → begin_words line.text ≡ Some words → max_object < size line → fault ≡ at place ObjectTooLong → IsFaultOfBegin limit place line fault

-- The fault of the line after these body lines of an object, whose BEGIN line has these words and stands at begin: the line is
-- not sound, or it begins with '-' and is not the END line, or it is the END line and the body lines are not base64.
pub data IsFaultInside (limit begin place : ℕ) (words : List ℕ) (body : List Line) (line : Line) (fault : DocFault) : Type 0 where
  unsound : object_line_fault limit begin place line ≡ Some fault → IsFaultInside limit begin place words body line fault
  no_end : object_line_fault limit begin place line ≡ None → begins_dash line.text ≡ true → is_end_line words line.text ≡ false → fault ≡ at place ObjectEnd → IsFaultInside limit begin place words body line fault
  no_base64 : IsEndLine limit begin place line words → is_body (text_of body) ≡ false → fault ≡ at begin ObjectBase64 → IsFaultInside limit begin place words body line fault

-- the fault of what follows these body lines: of the next line, or that there is none
abbrev pub IsFaultAfter : ℕ → ℕ → ℕ → List ℕ → List Line → List Line → DocFault → Type 0
IsFaultAfter limit begin place words body [] fault = fault ≡ at place Unterminated
IsFaultAfter limit begin place words body (line ∷ rest) fault = IsFaultInside limit begin place words body line fault

-- a keyword line, the BEGIN line and body lines of an object, and then what has this fault
pub record HasFaultInObject (limit place : ℕ) (all : List Line) (fault : DocFault) : Type 0 where
  pub line : Line
  pub first : Line
  pub words : List ℕ
  pub body : List Line
  pub others : List Line
  pub lines : all ≡ line ∷ first ∷ body ++ others
  pub keyword : IsKeywordLine limit place line
  pub begins : IsBeginLine limit (place + size line) first words
  pub inside : AreBodyLines limit (place + size line) (place + size line + size first) body
  pub is_fault : IsFaultAfter limit (place + size line) (place + size line + size first + sizes body) words body others fault

-- at the front of these lines there stands what has this fault: a line between items; a keyword line and a line that begins
-- with '-' and no object; or a keyword line and an object that does not end as it should
pub data HasFault (limit place : ℕ) (all : List Line) (fault : DocFault) : Type 0 where
  between : (line : Line) (others : List Line) → all ≡ line ∷ others → IsFaultBetween limit place line fault → HasFault limit place all fault
  begin : (line first : Line) (others : List Line) → all ≡ line ∷ first ∷ others → IsKeywordLine limit place line → begins_dash first.text ≡ true → IsFaultOfBegin limit (place + size line) first fault → HasFault limit place all fault
  object : HasFaultInObject limit place all fault → HasFault limit place all fault

-- the first of these lines begins with '-'
abbrev pub begin_with_dash : List Line → Bool
begin_with_dash [] = false
begin_with_dash (line ∷ rest) = begins_dash line.text

-- the last of these lines is a keyword line
abbrev pub end_in_keyword_line : List Line → Bool
end_in_keyword_line [] = false
end_in_keyword_line (line ∷ []) = is_keyword_line line.text
end_in_keyword_line (line ∷ other ∷ rest) = end_in_keyword_line (other ∷ rest)

-- The lines of these items, in order, with their blank lines, and then what has this fault. It does not begin with '-' right
-- after a keyword line, since such a line is that item's: a fault in an object hides the item.
pub record EndInFault (limit place : ℕ) (all : List Line) (items : List Item) (fault : DocFault) : Type 0 where
  pub front : List Line
  pub rest : List Line
  pub lines : all ≡ front ++ rest
  pub before : AreLinesOfItems limit place front items
  pub apart : end_in_keyword_line front && begin_with_dash rest ≡ false
  pub is_fault : HasFault limit (place + sizes front) rest fault

-- This fault, after these items, is found in the bytes from start on exactly where their lines, as those of a document of at
-- most limit bytes, are the lines of the items and then what has the fault.
abbrev pub FaultsAreThere : Type 0
FaultsAreThere =
    (start limit : ℕ) (bytes : List ℕ) (items : List Item) (fault : DocFault) → (items_from start limit bytes ≡ record { items = items; fault = Some fault }) ↔ EndInFault (start + limit) start (lines (drop start bytes)) items fault
