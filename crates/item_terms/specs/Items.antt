-- The items of a document, and its first fault (dir-spec, meta-format).
use Rattle.std.specs.Prelude.{ℕ, ◌+◌, List, [], ◌∷◌, Option, Some, None, Result, Ok, Err, drop}
use Rattle.item_terms.specs.{declared.fault.{DocReason.TheVariants.Unterminated, DocFault.DocFault}, Lines.Line}
use Rattle.item_terms.specs.{Lines.{lines, size}, Faults.at}
pub use Rattle.item_terms.specs.Steps.{Item, Object, Open, nothing, keyword_line, object_lines, Step, step}

-- the items up to the first fault, and that fault if there is one
pub record Contents : Type 0 where
  pub items : List Item
  pub fault : Option DocFault

-- the contents with the item in front, if there is one
abbrev pub also : Option Item → Contents → Contents
also None rest = rest
also (Some item) rest = record { items = item ∷ rest.items; fault = rest.fault }

-- no item, and this fault
abbrev pub failed_contents : DocFault → Contents
failed_contents fault = record { items = []; fault = Some fault }

-- what follows a line that has no fault
abbrev pub proceed : Result Open DocFault → (Open → Contents) → Contents
proceed (Err fault) rest = failed_contents fault
proceed (Ok open_) rest = rest open_

-- what is left where the text ends at this place
abbrev pub at_end : ℕ → Open → Contents
at_end place nothing = record { items = []; fault = None }
at_end place (keyword_line item) = record { items = item ∷ []; fault = None }
at_end place (object_lines item begin object) = failed_contents (at place Unterminated)

-- what the lines hold that begin at this place: the limit, then the place
unfoldable pub contents_of : ℕ → ℕ → Open → List Line → Contents
contents_of limit place so_far [] = at_end place so_far
contents_of limit place so_far (line ∷ rest) =
    let made = step limit place so_far line in
    also made.whole (proceed made.next (λ open_. contents_of limit (place + size line) open_ rest))

-- what the bytes hold that begin at this place: the limit, then the place
abbrev pub contents : ℕ → ℕ → Open → List ℕ → Contents
contents limit place so_far bytes = contents_of limit place so_far (lines bytes)

-- What stands in the bytes from start on, where the document may have this many bytes. Places count from the first of the
-- bytes.
abbrev pub items_from : ℕ → ℕ → List ℕ → Contents
items_from start limit bytes = contents (start + limit) start nothing (drop start bytes)

-- the items of a document of at most so many bytes, up to its first fault, and that fault
abbrev pub items_of : ℕ → List ℕ → Contents
items_of limit bytes = items_from 0 limit bytes

-- more bytes than an input has
abbrev pub no_limit : ℕ
no_limit = 2305843009213693952
