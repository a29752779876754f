-- The parts of each item stand in the input where the item says.
use Rattle.std.specs.Prelude.{◌≡◌, ℕ, ◌≤◌, List, [], ◌∷◌, length, take, drop, IfSome}
use Rattle.item_terms.specs.Items.{Item, items_from}
use Rattle.dirdoc_grammar.specs.Seen.{LiesInOrder}

-- the item's keyword, arguments and object are what stands at its places, in order, within the input
pub record InPlace (bytes : List ℕ) (item : Item) : Type 0 where
  pub keyword : take (length item.keyword) (drop item.place bytes) ≡ item.keyword
  pub arguments : take (length item.arguments) (drop item.start bytes) ≡ item.arguments
  pub object : IfSome item.object (λ object. take (length object.text) (drop object.start bytes) ≡ object.text)
  pub in_order : LiesInOrder item
  pub within : item.after ≤ length bytes

-- each of these items stands in place
abbrev pub EachInPlace : List ℕ → List Item → Type 0
EachInPlace bytes [] = Unit {0}
EachInPlace bytes (item ∷ items) = InPlace bytes item × EachInPlace bytes items

-- each item of a document stands in place
abbrev pub StandInPlace : Type 0
StandInPlace = (start limit : ℕ) (bytes : List ℕ) → EachInPlace bytes (items_from start limit bytes).items
