-- A document that is read of an input with a byte has a byte.
use Rattle.std.proofs.Common.{ℕ, ◌≤◌, ◌<◌, List, [], ◌∷◌, length, Option, Some, None, Result, Ok, Err, subst, arith}
use Rattle.item_terms.specs.{Items.{Item, items_of}, declared.fault.DocFault.DocFault}
use Rattle.dirdoc_grammar.{specs.InPlace.EachInPlace, proofs.Places.stand_in_place}
use Rattle.frame_terms.specs.declared.document.{Group.Group, Made.{Made, TheVariants.{Passes, Pushes, Opens, Enters}}}
use Rattle.frame_terms.specs.declared.document.{Made.TheVariants.{Leaves, Ends, Stops}, Open.Open, Taken.Taken}
use Rattle.frame_terms.specs.declared.fault.{FrameFault.FrameFault, FrameReason.FrameReason, ReadRefusal.ReadRefusal}
use Rattle.frame_terms.specs.{declared.{keyword.Keyword.Keyword, row.Row.Row}, Decisions.{beginning_reason, first_item}}
use Rattle.frame_terms.specs.{Decisions.{made_by, unless_refused}, Documents.{Document, closed_at, at_end}}
use Rattle.frame_terms.specs.Documents.{missing_at_end, with_next, with_inner, with_one, without_inner, onto, go_on}
use Rattle.frame_terms.specs.Documents.{note_of_made, after_noted, after_made, read_items, start, document_of, finish}
use Rattle.frame_terms.specs.{Keywords.word_of, Sections.{accept, row_of}, Standing.{as_made, begins}, Tables.Tables}
use Rattle.mirror_core.{specs.Used.HasBytes, proofs.LaterItems.{AreFrom, AreLater, items_later}}

-- the document, if one is read, has a byte
abbrev UsesSome : {S V : Type 0} → Result (Document S V) ReadRefusal → Type 0
UsesSome (Ok document) = 0 < document.used
UsesSome (Err refusal) = Unit {0}

-- an item that ends the document before it stands behind the first byte
abbrev IsPast : {S V : Type 0} → ℕ → Result (Made S V) ReadRefusal → Type 0
IsPast place (Ok Stops) = 0 < place
IsPast place _ = Unit {0}

module _ {S K V X : Type 0} (tables : Tables S K V X) (n : ℕ) (some : 0 < n) where
  closes : (open_ : Open S V) (missing : Option Keyword) → UsesSome (closed_at n open_ missing)
  closes open_ None = some
  closes open_ (Some keyword) = tt

  ends_there : (open_ : Open S V) (fault : Option DocFault) → UsesSome (at_end tables n open_ fault)
  ends_there open_ None = closes open_ (missing_at_end tables open_.section open_.taken)
  ends_there open_ (Some fault) = tt

  onto_some : (group : Group S V) (rest : Result (Document S V) ReadRefusal) → UsesSome rest → UsesSome (onto group rest)
  onto_some group (Ok document) is = is
  onto_some group (Err refusal) is = tt

  goes_on : (made : Made S V) (open_ : Open S V) (item : Item) (more : Open S V → Result (Document S V) ReadRefusal)
      → IsPast item.place (Ok made) → item.place < item.after → ((next : Open S V) → UsesSome (more next))
      → UsesSome (go_on made open_ item more)
  goes_on Passes open_ item more past ends each = each open_
  goes_on (Pushes one) open_ item more past ends each = each (with_one one open_)
  goes_on (Opens next one) open_ item more past ends each =
      onto_some _ (more (with_next next one open_)) (each (with_next next one open_))
  goes_on (Enters inner one) open_ item more past ends each = each (with_inner inner one open_)
  goes_on (Leaves one) open_ item more past ends each =
      onto_some _ (more (without_inner open_.around open_)) (each (without_inner open_.around open_))
  goes_on (Ends one) open_ item more past ends each = omega (arith, ends)
  goes_on Stops open_ item more past ends each = past

  noted_some : (noted : Result X FrameFault) (made : Made S V) (open_ : Open S V) (item : Item)
      (more : X → Open S V → Result (Document S V) ReadRefusal) → IsPast item.place (Ok made) → item.place < item.after
      → ((across : X) (next : Open S V) → UsesSome (more across next)) → UsesSome (after_noted noted made open_ item more)
  noted_some (Err fault) made open_ item more past ends each = tt
  noted_some (Ok across) made open_ item more past ends each =
      goes_on made open_ item (λ next. more across next) past ends (λ next. each across next)

  made_some : (made : Result (Made S V) ReadRefusal) (across : X) (open_ : Open S V) (item : Item)
      (more : X → Open S V → Result (Document S V) ReadRefusal) → IsPast item.place made → item.place < item.after
      → ((across : X) (next : Open S V) → UsesSome (more across next))
      → UsesSome (after_made tables made across open_ item more)
  made_some (Err refusal) across open_ item more past ends each = tt
  made_some (Ok made) across open_ item more past ends each =
      noted_some (note_of_made tables made across) made open_ item more past ends each

  -- an item behind the first byte
  past_by : (place : ℕ) (made : Result (Made S V) ReadRefusal) → 1 ≤ place → IsPast place made
  past_by place (Err refusal) le = tt
  past_by place (Ok Passes) le = tt
  past_by place (Ok (Pushes one)) le = tt
  past_by place (Ok (Opens next one)) le = tt
  past_by place (Ok (Enters inner one)) le = tt
  past_by place (Ok (Leaves one)) le = tt
  past_by place (Ok (Ends one)) le = tt
  past_by place (Ok Stops) le = le

  items_some : (bytes : List ℕ) (across : X) (open_ : Open S V) (fault : Option DocFault) (items : List Item)
      → EachInPlace bytes items → AreFrom 1 items → UsesSome (read_items tables n across open_ fault items)
  unfolding read_items
  items_some bytes across open_ fault [] each from = ends_there open_ fault
  items_some bytes across open_ fault (item ∷ items) each from =
      made_some (made_by tables across open_ item) across open_ item
      (λ remembered next. read_items tables n remembered next fault items)
      (past_by item.place (made_by tables across open_ item) from.0) each.0.in_order.some_bytes
      (λ remembered next. items_some bytes remembered next fault items each.1 from.1)

  -- the first item ends no document before it
  pushes_none : (place : ℕ) (read : Result (Taken V) ReadRefusal) → IsPast place (as_made {S = S} {V = V} Pushes read)
  pushes_none place (Ok one) = tt
  pushes_none place (Err refusal) = tt

  begins_none : (across : X) (item : Item) (row : Option (Row K))
      → IsPast item.place (begins tables across Pushes item row)
  begins_none across item None = tt
  begins_none across item (Some row) = pushes_none item.place (accept tables across row [] item)

  item_none : (across : X) (item : Item) (word : Option Keyword) → IsPast item.place (first_item tables across item word)
  item_none across item None = tt
  item_none across item (Some keyword) = begins_none across item (row_of (tables.rows tables.first) keyword)

  refused_none : (place at_ : ℕ) (reason : Option FrameReason) (made : Result (Made S V) ReadRefusal) → IsPast at_ made
      → IsPast at_ (unless_refused place reason made)
  refused_none place at_ None made is = is
  refused_none place at_ (Some reason) made is = tt

  first_none : (across : X) (item : Item) → IsPast item.place (made_by tables across (start tables) item)
  first_none across item =
      let word = word_of item.keyword in
      refused_none item.place item.place (beginning_reason tables word) (first_item tables across item word)
      (item_none across item word)

  all_some : (bytes : List ℕ) (fault : Option DocFault) (items : List Item) → EachInPlace bytes items → AreLater items
      → UsesSome (read_items tables n tables.start (start tables) fault items)
  unfolding read_items
  all_some bytes fault [] each later = ends_there (start tables) fault
  all_some bytes fault (item ∷ items) each later =
      made_some (made_by tables tables.start (start tables) item) tables.start (start tables) item
      (λ remembered next. read_items tables n remembered next fault items)
      (first_none tables.start item) each.0.in_order.some_bytes
      (λ remembered next. items_some bytes remembered next fault items each.1 later)

-- what is kept of a document, if one is read, has a byte
abbrev KeptSome : {F : Type 0} → Result (F × ℕ) ReadRefusal → Type 0
KeptSome (Ok (kept, used)) = 0 < used
KeptSome (Err refusal) = Unit {0}

finished : {S V F : Type 0} (with_ : F → S → List (Taken V) → F) (facts : F) (read : Result (Document S V) ReadRefusal)
    → UsesSome read → KeptSome (finish with_ facts read)
finished with_ facts (Ok document) is = is
finished with_ facts (Err refusal) is = tt

pub have_bytes : {S K V X F : Type 0} (with_ : F → S → List (Taken V) → F) (tables : Tables S K V X)
    → HasBytes with_ tables
have_bytes with_ tables facts kept limit bytes used some is =
    let contents = items_of limit bytes in
    subst KeptSome is
    (finished with_ facts (document_of tables (length bytes) contents)
    (all_some tables (length bytes) some bytes contents.fault contents.items (stand_in_place 0 limit bytes)
    (items_later limit bytes)))
