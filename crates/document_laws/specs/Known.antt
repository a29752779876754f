-- What is known of a document of which some bytes have come.
use Rattle.std.specs.Prelude.{◌≡◌, ℕ, Bool, true, false, List, ◌++◌, length, Result, Ok, Err}
use Rattle.item_terms.specs.Items.{Item}
use Rattle.dirdoc_grammar.specs.{declared.cursor.Cursor.Cursor, Cursors.IsAt}
use Rattle.frame_terms.specs.declared.{document.{Open.Open, Taken.Taken}, fault.FrameFault.FrameFault}
use Rattle.frame_terms.specs.declared.fault.{FrameReason.{FrameReason, TheVariants.Doc}, ReadRefusal.ReadRefusal}
use Rattle.frame_terms.specs.Tables.{Tables}
use Rattle.frame_reader.specs.Arriving.{AllIsRead, whole_of}

-- whether a fault is one of a line or an object
abbrev pub is_doc : FrameReason → Bool
is_doc (Doc reason) = true
is_doc _ = false

-- an answer that is no fault of a line or an object
abbrev pub IsNoDoc : {Y : Type 0} → Result Y FrameFault → Type 0
IsNoDoc (Ok _) = Unit {0}
IsNoDoc (Err fault) = is_doc fault.reason ≡ false

-- No item is refused, for what it says or for where it stands, as a line or an object is that has a fault.
pub record HasNoDoc {S K V X : Type 0} (tables : Tables S K V X) : Type 0 where
  pub values : (across : X) (kind : K) (item : Item) → IsNoDoc (tables.value_of across kind item)
  pub notes : (across : X) (one : Taken V) → IsNoDoc (tables.note across one)

module _ {S K V X F : Type 0} where
  -- the document that these bytes begin is not known yet: no answer is given of it whatever follows
  abbrev pub IsOpen : (F → S → List (Taken V) → F) → Tables S K V X → F → ℕ → List ℕ → Type 0
  IsOpen with_ tables none limit bytes =
      (answer : Result (F × ℕ) ReadRefusal)
      → ((more : List ℕ) → whole_of with_ tables none limit (length (bytes ++ more)) (bytes ++ more) ≡ answer) → ⊥

module _ {S K V X : Type 0} where
  -- Where all that has come of a document is read, whatever is kept of it, the document is not known yet. So nothing of
  -- it was held back.
  abbrev pub AllIsOpen : Type 0 → Tables S K V X → Type 0
  AllIsOpen F tables =
      HasNoDoc tables → (with_ : F → S → List (Taken V) → F) (none facts : F) (bytes : List ℕ) (cursor : Cursor)
      (across : X) (open_ : Open S V) → IsAt bytes cursor
      → AllIsRead with_ tables none bytes cursor across open_ facts
      → IsOpen with_ tables none cursor.limit bytes
