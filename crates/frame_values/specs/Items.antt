-- The items that say something: a keyword, and what its line and its object say.
use Rattle.std.specs.Prelude.{ℕ, true, false, List, [], ◌∷◌, Option, Some, None}
use Rattle.dir_bytes.specs.FieldTexts.{moment_text}
use Rattle.dirdoc_grammar.specs.Writing.{NewItem}
use Rattle.frame_terms.specs.{Keywords.text_of, declared.keyword.Keyword.Keyword}
use Rattle.frame_values.specs.Parts.{moment_of}

-- an item whose line has this rest, without an object
abbrev pub bare : Keyword → List ℕ → NewItem
bare keyword rest = record { keyword = text_of keyword; arguments = rest; spaced = false; object = None }

-- an item of a keyword and a space alone
abbrev pub spaced_item : Keyword → NewItem
spaced_item keyword = record { keyword = text_of keyword; arguments = []; spaced = true; object = None }

-- an item whose line has this rest, with an object of these words and bytes
abbrev pub with_object : Keyword → List ℕ → List ℕ → List ℕ → NewItem
with_object keyword rest words bytes =
    record {
      keyword = text_of keyword;
      arguments = rest;
      spaced = false;
      object = Some (record { words = words; bytes = bytes });
    }

-- an item where there is a rest of its line
abbrev pub item_if : Keyword → Option (List ℕ) → List NewItem
item_if keyword None = []
item_if keyword (Some rest) = bare keyword rest ∷ []

-- an item that says a moment; one past the calendar is written as its last one
abbrev pub moment_item : Keyword → ℕ → NewItem
moment_item keyword moment = bare keyword (moment_text (moment_of moment))
