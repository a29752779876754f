-- A document that is read while its bytes arrive.
use Rattle.std.specs.Prelude.{◌≡◌, ℕ, List, ◌++◌, false, Option, Result}
use Rattle.item_terms.specs.{Items.{Item, contents, nothing}, declared.fault.DocFault.DocFault}
use Rattle.dirdoc_grammar.specs.{declared.cursor.Cursor.Cursor, Cursors.fed_by, Feeding.{Fed, left_with, Settles}}
use Rattle.frame_terms.specs.declared.{document.{Open.Open, Taken.Taken}, fault.ReadRefusal.ReadRefusal}
use Rattle.frame_terms.specs.{Documents.{document_of, read_items, finish}, Tables.Tables}

module _ {S K V X F : Type 0} where
  -- what a document is, by what was read of it, where these bytes follow those that have come and the input has this length
  abbrev pub goes_on : (F → S → List (Taken V) → F) → Tables S K V X → Fed → X → Open S V → F → ℕ → List ℕ → Result (F × ℕ) ReadRefusal
  goes_on with_ tables fed across open_ facts length more =
      finish with_ facts (read_items tables length across open_ (left_with fed more).fault (left_with fed more).items)

  -- what the document is that these bytes begin
  abbrev pub whole_of : (F → S → List (Taken V) → F) → Tables S K V X → F → ℕ → ℕ → List ℕ → Result (F × ℕ) ReadRefusal
  whole_of with_ tables none limit length bytes = finish with_ none (document_of tables length (contents limit 0 nothing bytes))

  -- what was read of these bytes is so much of the document that they begin, whatever follows
  abbrev pub Follows : (F → S → List (Taken V) → F) → Tables S K V X → F → List ℕ → Cursor → X → Open S V → F → Type 0
  Follows with_ tables none bytes cursor across open_ facts =
      (length : ℕ) (more : List ℕ) → whole_of with_ tables none cursor.limit length (bytes ++ more) ≡ goes_on with_ tables (fed_by cursor bytes false) across open_ facts length more

  -- all that has come is read, and neither an item nor a fault is known of the rest
  abbrev pub AllIsRead : (F → S → List (Taken V) → F) → Tables S K V X → F → List ℕ → Cursor → X → Open S V → F → Type 0
  AllIsRead with_ tables none bytes cursor across open_ facts =
      Follows with_ tables none bytes cursor across open_ facts × ((answer : Result (Option Item) DocFault) → Settles (fed_by cursor bytes false) answer → ⊥)
