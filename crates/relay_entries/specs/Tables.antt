-- The items of an entry, in every document that lists relays (dir-spec, "Vote and consensus status document formats").
use Rattle.std.specs.Prelude.{List, [], ◌∷◌, None}
use Rattle.frame_terms.specs.declared.keyword.Keyword.TheVariants as the
use Rattle.frame_terms.specs.declared.{row.{Count.TheVariants.{One, Optional, Many}, Row.Row}, section.Shape.Shape}
use Rattle.frame_terms.specs.Rows.{row}
use Rattle.frame_terms.specs.declared.section.Again.TheVariants as again
use Rattle.relay_entries.specs.declared.said.EntryKind.{EntryKind, TheVariants.{Relay, Address, Flags, Rest}}
use Rattle.relay_entries.specs.declared.said.EntryKind.TheVariants.{Bandwidths, Micro, Ed}

module _ {K : Type 0} where
  -- the items of an entry, in a document that has their kinds among its own; the first one opens it
  abbrev pub entry_rows : (EntryKind → K) → List (Row K)
  entry_rows kind =
      row the.R One (kind Relay)
      ∷ row the.A Many (kind Address)
      ∷ row the.S One (kind Flags)
      ∷ row the.V Optional (kind Rest)
      ∷ row the.Pr Optional (kind Rest)
      ∷ row the.W Optional (kind Bandwidths)
      ∷ row the.P Optional (kind Rest)
      ∷ row the.M Many (kind Micro)
      ∷ row the.Id Optional (kind Ed)
      ∷ []

module _ {S : Type 0} where
  -- how it begins and ends: one more opener begins the next entry
  abbrev pub entry_shape : Shape S
  entry_shape = record { opener = the.R; last = None; again = again.Section; inner = None; limit = None }
