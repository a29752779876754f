-- Items that have been written behind a text, and that they are read again (dir-spec, meta-format).
use Rattle.std.specs.Prelude.{◌≡◌, ℕ, ◌+◌, ◌≤◌, true, List, [], ◌∷◌, ◌++◌, length, All, None, IfSome}
use Rattle.base64.specs.GeneralPurpose.{IsBytes}
use Rattle.item_terms.specs.{Words.are_words, Faults.{max_line, max_object}, Items.items_from}
use Rattle.dirdoc_grammar.specs.{Bodies.object_text, Writing.{IsKeyword, IsLineRest, NewItem, NewObject, all_written}}
use Rattle.dirdoc_grammar.specs.Writing.{item_text, items_text, keyword_text}

-- ---- items

-- the object has words, and its bytes are bytes
pub record IsObject (object : NewObject) : Type 0 where
  pub words : are_words true object.words ≡ true
  pub bytes : IsBytes object.bytes

-- The item may be written, but for the limits of its line, its object and the document: those are asked of its text and its
-- place (`IsWithinLimits`, and with what stands here `IsWritable`).
pub record IsItem (item : NewItem) : Type 0 where
  pub keyword : IsKeyword item.keyword
  pub arguments : IsLineRest item.arguments
  pub object : IfSome item.object IsObject

-- the text is that before, and then the text of items
pub record HasItems (before whole : List ℕ) : Type 0 where
  pub items : List NewItem
  pub each : All IsItem items
  pub text : whole ≡ before ++ items_text items

-- ---- limits

-- the item passes no limit at this place of a document: the limit, then the place
pub record IsWithinLimits (limit place : ℕ) (item : NewItem) : Type 0 where
  pub line : length (keyword_text item) + 1 ≤ max_line
  pub object : IfSome item.object (λ object. length (object_text object.words object.bytes) ≤ max_object)
  pub within : place + length (item_text item) ≤ limit

-- no item of these passes a limit, from this place on
abbrev pub AreWithinLimits : ℕ → ℕ → List NewItem → Type 0
AreWithinLimits limit place [] = Unit {0}
AreWithinLimits limit place (item ∷ items) = IsWithinLimits limit place item × AreWithinLimits limit (place + length (item_text item)) items

-- ---- the law

-- Items that stand behind a text are read again from there on, and nothing else is, if none of them passes a limit.
abbrev pub WrittenItemsAreRead : Type 0
WrittenItemsAreRead =
    (limit : ℕ) (before whole : List ℕ) (has : HasItems before whole) → AreWithinLimits (length before + limit) (length before) has.items
    → items_from (length before) limit whole ≡ record { items = all_written (length before) has.items; fault = None }
