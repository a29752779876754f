-- The texts of items of a document: what stands in its bytes from one item to another, and a keyword line.
use Rattle.std.specs.Prelude.{◌≡◌, ℕ, ◌==◌, true, not, List, [], ◌∷◌, ◌++◌, length, take, drop, slice_range}
use Rattle.std.specs.List.{list_all}
use Rattle.item_terms.specs.Items.{Item}
use Rattle.item_terms.specs.Words as line

-- the text of an item and of all that follow it before another: the bytes from the first byte of the one up to that of the
-- other
abbrev pub text_before : List ℕ → Item → Item → List ℕ
text_before bytes first last = slice_range bytes first.place last.place

-- the text of an item and of all that follow it, the last one with it
abbrev pub text_through : List ℕ → Item → Item → List ℕ
text_through bytes first last = slice_range bytes first.place last.after

-- the keyword line of an item: what stands from the item's first byte through the first NL, with its keyword in front
pub record IsLineOf (bytes : List ℕ) (item : Item) (whole : List ℕ) : Type 0 where
  pub text : List ℕ
  pub ends : whole ≡ text ++ 10 ∷ []
  pub one_line : list_all (λ b. not (b == 10)) text ≡ true
  pub keyword : line.keyword text ≡ item.keyword
  pub stands : take (length whole) (drop item.place bytes) ≡ whole
