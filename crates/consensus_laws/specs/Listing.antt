-- The texts of lines of lists that are read list what is kept of them (dir-spec, "Vote and consensus status document
-- formats").
use Rattle.std.specs.Prelude.{◌≡◌, ℕ, List, [], ◌∷◌, Ok}
use Rattle.item_terms.specs.{Items.{Item, items_from}, Words.words_of}
use Rattle.dir_values.specs.FlagSets.{as_set, flag_set}
use Rattle.frame_values.specs.{Lines.flags_of, Parts.part, declared.found.Span.Span}
use Rattle.list_values.specs.Params as params
use Rattle.list_values.specs.Protocols as protocols
use Rattle.list_values.specs.VersionLists as versions
use Rattle.value_groups.specs.ListLines as lines
use Rattle.value_groups.specs.Listed.{params_in, protocols_in, versions_in}

-- The text that the line has, where it is read as params, versions of Tor or versions of protocols, is read as such a list,
-- which is what is kept of it.
pub record IsReadWhole (bytes : List ℕ) (item : Item) : Type 0 where
  pub params : (text : Span) → lines.params_of item ≡ Ok text
      → params.params_of (part bytes text) ≡ Ok (params_in (part bytes text))
  pub versions : (text : Span) → lines.versions_of item ≡ Ok text
      → versions.version_list (part bytes text) ≡ Ok (versions_in (part bytes text))
  pub protocols : (text : Span) → lines.protocols_of item ≡ Ok text
      → protocols.protocols_of (part bytes text) ≡ Ok (protocols_in (part bytes text))
  -- a text that is read as flags is read as the set of its words
  pub flags : (text : Span) → flags_of item ≡ Ok text
      → flag_set (part bytes text) ≡ Ok (as_set (words_of (part bytes text)))

-- it is so of each of these items
abbrev pub EachIsReadWhole : List ℕ → List Item → Type 0
EachIsReadWhole bytes [] = Unit {0}
EachIsReadWhole bytes (item ∷ items) = IsReadWhole bytes item × EachIsReadWhole bytes items

-- It is so of each item of a document.
abbrev pub ListsAreReadWhole : Type 0
ListsAreReadWhole = (start limit : ℕ) (bytes : List ℕ) → EachIsReadWhole bytes (items_from start limit bytes).items
