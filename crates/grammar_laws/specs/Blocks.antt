-- A document by its lines (dir-spec, meta-format): it is a list of items, and there may be blank lines before, between and
-- after them. An item is a keyword line and at most one object, which begins on the very next line.
use Rattle.std.specs.Prelude.{◌≡◌, ℕ, ◌+◌, ◌≤◌, true, false, List, [], ◌∷◌, ◌++◌, drop, Option, Some, None}
use Rattle.item_terms.specs.{Lines.{Line, lines, size}, Words.{is_blank_line, is_keyword_line, keyword, separator}}
use Rattle.item_terms.specs.Words.{arguments, argument_start, begins_dash, begin_words, is_end_line}
use Rattle.item_terms.specs.{Base64Text.is_body, Faults.{line_fault, object_line_fault, max_object}, Items.Item}
use Rattle.item_terms.specs.Items.{Object, items_from}

-- how many bytes these lines have, with their NLs
abbrev pub sizes : List Line → ℕ
sizes [] = 0
sizes (line ∷ rest) = size line + sizes rest

-- the lines in one text, each with its NL
abbrev pub text_of : List Line → List ℕ
text_of [] = []
text_of (line ∷ rest) = line.text ++ 10 ∷ text_of rest

-- ---- a line at a place. It is sound where it has an NL and no NUL, and passes no limit: a line's, the document's, and the
-- object's after its BEGIN line, which stands at begin.

-- a blank line
pub record IsBlankLine (limit place : ℕ) (line : Line) : Type 0 where
  pub blank : is_blank_line line.text ≡ true
  pub sound : line_fault limit place line ≡ None

-- a keyword line
pub record IsKeywordLine (limit place : ℕ) (line : Line) : Type 0 where
  pub keyword : is_keyword_line line.text ≡ true
  pub sound : line_fault limit place line ≡ None

-- the BEGIN line of an object with these words, no longer than an object may be
pub record IsBeginLine (limit place : ℕ) (line : Line) (words : List ℕ) : Type 0 where
  pub begins : begin_words line.text ≡ Some words
  pub sound : line_fault limit place line ≡ None
  pub fits : size line ≤ max_object

-- a body line: it stands between the BEGIN line of an object and its END line
pub record IsBodyLine (limit begin place : ℕ) (line : Line) : Type 0 where
  pub no_dash : begins_dash line.text ≡ false
  pub sound : object_line_fault limit begin place line ≡ None

-- the END line of an object with these words
pub record IsEndLine (limit begin place : ℕ) (line : Line) (words : List ℕ) : Type 0 where
  pub ends : is_end_line words line.text ≡ true
  pub sound : object_line_fault limit begin place line ≡ None

-- ---- lines from a place on

-- blank lines
abbrev pub AreBlankLines : ℕ → ℕ → List Line → Type 0
AreBlankLines limit place [] = Unit {0}
AreBlankLines limit place (line ∷ rest) = IsBlankLine limit place line × AreBlankLines limit (place + size line) rest

-- body lines of the object whose BEGIN line stands at begin
abbrev pub AreBodyLines : ℕ → ℕ → ℕ → List Line → Type 0
AreBodyLines limit begin place [] = Unit {0}
AreBodyLines limit begin place (line ∷ rest) = IsBodyLine limit begin place line × AreBodyLines limit begin (place + size line) rest

-- the lines of this object: its BEGIN line, body lines, which are its text and base64, and an END line with the same words
pub record AreLinesOfObject (limit place : ℕ) (own : List Line) (object : Object) : Type 0 where
  pub first : Line
  pub body : List Line
  pub last : Line
  pub lines : own ≡ first ∷ body ++ last ∷ []
  pub begins : IsBeginLine limit place first object.words
  pub inside : AreBodyLines limit place (place + size first) body
  pub base64 : is_body (text_of body) ≡ true
  pub ends : IsEndLine limit place (place + size first + sizes body) last object.words
  pub start : object.start ≡ place + size first
  pub text : object.text ≡ text_of body

-- the lines of this object, if there is one, or else no lines
abbrev pub AreLinesOfObjectIf : ℕ → ℕ → List Line → Option Object → Type 0
AreLinesOfObjectIf limit place own None = own ≡ []
AreLinesOfObjectIf limit place own (Some object) = AreLinesOfObject limit place own object

-- The lines of this item: its keyword line, and from the very next line on those of its object, if it has one. The item has
-- what its keyword line says, the place of its first byte, and the place after its last line.
pub record AreLinesOfItem (limit place : ℕ) (own : List Line) (item : Item) : Type 0 where
  pub first : Line
  pub others : List Line
  pub lines : own ≡ first ∷ others
  pub begins : IsKeywordLine limit place first
  pub object : AreLinesOfObjectIf limit (place + size first) others item.object
  pub keyword : item.keyword ≡ keyword first.text
  pub separator : item.separator ≡ separator first.text
  pub arguments : item.arguments ≡ arguments first.text
  pub start : item.start ≡ argument_start place first.text
  pub line_end : item.line_end ≡ place + size first
  pub stands : item.place ≡ place
  pub after : item.after ≡ place + sizes own

-- blank lines, the lines of this item, and then other lines, of which this is so
pub record LeadTo (limit place : ℕ) (all : List Line) (item : Item) (IsSo : List Line → Type 0) : Type 0 where
  pub blanks : List Line
  pub own : List Line
  pub others : List Line
  pub lines : all ≡ blanks ++ own ++ others
  pub are_blank : AreBlankLines limit place blanks
  pub are_its : AreLinesOfItem limit (place + sizes blanks) own item
  pub go_on : IsSo others

-- the lines of these items, in order, and blank lines before, between and after them
abbrev pub AreLinesOfItems : ℕ → ℕ → List Line → List Item → Type 0
AreLinesOfItems limit place all [] = AreBlankLines limit place all
AreLinesOfItems limit place all (item ∷ items) = LeadTo limit place all item (λ others. AreLinesOfItems limit item.after others items)

-- the bytes from start on are a document of at most limit bytes, and these are its items
abbrev pub IsDocument : ℕ → ℕ → List ℕ → List Item → Type 0
IsDocument start limit bytes items = AreLinesOfItems (start + limit) start (lines (drop start bytes)) items

-- where no fault is found, the bytes are a document, and the items that are found are its items
abbrev pub ItemsAreThere : Type 0
ItemsAreThere = (start limit : ℕ) (bytes : List ℕ) → (items_from start limit bytes).fault ≡ None → IsDocument start limit bytes (items_from start limit bytes).items

-- where the bytes are a document and these are its items, they are the items that are found, and no fault is
abbrev pub NoOthersAre : Type 0
NoOthersAre = (start limit : ℕ) (bytes : List ℕ) (items : List Item) → IsDocument start limit bytes items → items_from start limit bytes ≡ record { items = items; fault = None }
