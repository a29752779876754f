-- The lines of each object of a document spell bytes (dir-spec, "Document meta-format").
use Rattle.std.specs.Prelude.{◌≡◌, ℕ, Bool, List, [], ◌∷◌, Some, Ok}
use Rattle.item_terms.specs.Items.{Item, items_from}
use Rattle.dirdoc_grammar.specs.Bodies.{decoded_bytes}
use Rattle.frame_values.specs.{Parts.{bytes_in, part}, Signatures.object_of, declared.found.Span.Span}

-- The lines of the item's object, where they are read, spell the bytes that are kept of them.
abbrev pub SpellsBytes : List ℕ → Item → Type 0
SpellsBytes bytes item =
    (wanted : Bool) (lines : Span) → object_of wanted item ≡ Ok lines
    → decoded_bytes (part bytes lines) ≡ Some (bytes_in bytes lines)

-- it is so of each of these items
abbrev pub EachSpellsBytes : List ℕ → List Item → Type 0
EachSpellsBytes bytes [] = Unit {0}
EachSpellsBytes bytes (item ∷ items) = SpellsBytes bytes item × EachSpellsBytes bytes items

-- It is so of each item of a document.
abbrev pub ObjectsSpellBytes : Type 0
ObjectsSpellBytes = (start limit : ℕ) (bytes : List ℕ) → EachSpellsBytes bytes (items_from start limit bytes).items
