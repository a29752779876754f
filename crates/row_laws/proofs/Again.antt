-- A document of one section that ends with the input is read again, whatever its tables.
use Rattle.std.proofs.Common.{◌≡◌, ℕ, ◌+◌, Bool, true, false, List, [], ◌∷◌, ◌++◌, length, None, Ok, refl, sym, ap}
use Rattle.std.proofs.{Common.{subst, ◌∙◌, append-nil, arith}, lemmas.Bool.{and_from, and_parts, and_right}}
use Rattle.std.{proofs.lemmas.List.Elements.All-head, specs.Prelude.{◌&&◌, ◌||◌, map}}
use Rattle.item_terms.specs.{Items.{Contents, contents, contents_of, items_of, nothing}, Words.begins_dash}
use Rattle.dirdoc_grammar.specs.Writing.{AreWritable, NewItem, all_written, in_front, is_open, items_text, written}
use Rattle.grammar_laws.proofs.ItemsAgain.{items_again}
use Rattle.frame_terms.specs.{Documents.{Document, document_of, group, read_items}, Order.{following_sections, inner}}
use Rattle.frame_terms.specs.{Order.must_open, Tables.Tables, declared.document.{Taken.Taken, Made.TheVariants.Stops}}
use Rattle.frame_terms.specs.{declared.row.Row.Row, Decisions.made_by, Sections.lacking_keyword}
use Rattle.frame_terms.specs.declared.section.Again.TheVariants as again
use Rattle.frame_laws.proofs.{Ends.{closed_read, stopped_read}, Limits.fits, Entries.{Entry, item_of, taken_at}}
use Rattle.frame_laws.proofs.{Following.{IsFirst, first_read}, ReadRows.Stand, Remembered.{Forgets, notes_nothing}}
use Rattle.frame_laws.proofs.{SaidRows.{RowSays, are_apart}, Sections.{IsWritten, Section, entries_in, others_in}}
use Rattle.frame_laws.proofs.{Sections.{section_whole, taken_in}, Steps.{IsAgain, made_by-later, opening, stop_of}}
use Rattle.frame_laws.proofs.{TableRows.{are_plain, is_empty, is_plain}, WrittenRows.stand_written}
use Rattle.row_laws.proofs.{Rows.{Meaning, RowLaws}, Sayings.{AreSpoken, all_said, all_say, all_spoken, entry}}
use Rattle.row_laws.proofs.{Sayings.{same_items, same_rows}, Spoken.{SpokenRow, new_item, new_items, rows_in, spoken}}
use Rattle.row_laws.proofs.{Spoken.spoken_of, Written.suits_its_row}

module _ {S K V X : Type 0} where
  -- no item of these rows opens or ends anything
  abbrev pub all_plain : Tables S K V X → S → List (Row K) → Bool
  all_plain tables section [] = true
  all_plain tables section (row ∷ rows) = is_plain tables section row && all_plain tables section rows

-- The tables have one section, of these rows, of which the first opens it; it ends with the input.
pub record IsOneSection {S K V X : Type 0} (tables : Tables S K V X) (first : Row K)
    (rows : List (Row K)) : Type 0 where
  pub table : first ∷ rows ≡ tables.rows tables.first
  pub apart : are_apart (tables.rows tables.first) ≡ true
  pub plain : all_plain tables tables.first rows ≡ true
  pub begins : IsFirst tables first
  pub ends : must_open tables (following_sections tables tables.first) ≡ None
  pub forgets : Forgets tables

nothing_left : (limit place : ℕ) → contents limit place nothing [] ≡ record { items = []; fault = None }
unfolding contents_of
nothing_left limit place = refl

module _ {S K V X F : Type 0} (tables : Tables S K V X) (m : Meaning K V F)
    (MayWrite IsRead : K → F → Type 0) (laws : RowLaws tables m MayWrite IsRead) where
  abbrev say : List (SpokenRow K F) → List (RowSays K V)
  say rows = all_say tables m MayWrite IsRead laws rows

  plain_each : (section : S) (rows : List (SpokenRow K F)) → all_plain tables section (rows_in rows) ≡ true
      → are_plain tables section (say rows) ≡ true
  plain_each section [] plain = refl
  plain_each section (one ∷ rows) plain =
      let parts = and_parts (is_plain tables section one.row) (all_plain tables section (rows_in rows)) plain in
      and_from _ _ (ap (λ (t : Bool).
      t || is_empty (map (entry tables m MayWrite IsRead laws one.row) one.values)) parts.0)
      (plain_each section rows parts.1)

-- What was written is read: one section, whose items say what was said by the rows.
pub record IsReadAgain {S K V X F : Type 0} (tables : Tables S K V X) (m : Meaning K V F)
    (limit : ℕ) (rows : List (SpokenRow K F)) (bytes : List ℕ) (used : ℕ) : Type 0 where
  pub taken : List (Taken V)
  pub read : document_of tables (length bytes) (items_of limit bytes)
      ≡ Ok (record { groups = group tables.first taken ∷ []; used = used })
  pub says : map (λ (one : Taken V). spoken one.keyword (m.said bytes one.value)) taken ≡ spoken_of m.as_read rows

module _ {S K V X F D : Type 0} (tables : Tables S K V X) (m : Meaning K V F)
    (MayWrite IsRead : K → F → Type 0) (laws : RowLaws tables m MayWrite IsRead)
    (first : Row K) (opens : D → F) (others : D → List (SpokenRow K F)) (rest_rows : List (Row K))
    (rows_are : (d : D) → rows_in (others d) ≡ rest_rows) (is : IsOneSection tables first rest_rows) where
  -- all rows of a document
  abbrev pub document_rows : D → List (SpokenRow K F)
  document_rows d = record { row = first; values = opens d ∷ [] } ∷ others d

  -- and its items
  abbrev pub document_items : D → List NewItem
  document_items d = new_items m.write (document_rows d)

  abbrev section : D → Section S K V
  section d = record {
    name = tables.first;
    first = first;
    opener = entry tables m MayWrite IsRead laws first (opens d);
    middle = say tables m MayWrite IsRead laws (others d);
  }

  abbrev entries : D → List (Entry V)
  entries d = entries_in (section d)

  same_entries : (d : D) → map item_of (entries d) ≡ document_items d
  same_entries d = same_items tables m MayWrite IsRead laws (document_rows d)

  written_so : (limit : ℕ) (d : D) → AreSpoken MayWrite (document_rows d) → AreWritable limit 0 (document_items d)
      → IsWritten tables (section d) []
  written_so limit d are can = record {
    table =
        ap (λ (l : List (Row K)). first ∷ (l ++ [])) (same_rows tables m MayWrite IsRead laws (others d) ∙ rows_are d)
        ∙ ap (λ (l : List (Row K)). first ∷ l) (append-nil rest_rows) ∙ is.table;
    apart = is.apart;
    plain = plain_each tables m MayWrite IsRead laws tables.first (others d)
        (ap (λ (l : List (Row K)). all_plain tables tables.first l) (rows_are d) ∙ is.plain);
    opens = refl;
    said = all_said tables m MayWrite IsRead laws limit _ (others d) are.1 can.1;
  }

  closed : (items : List NewItem) (rest : List ℕ) → begins_dash rest ≡ false → (is_open items && begins_dash rest)
      ≡ false
  closed items rest no_dash = and_right (is_open items) (begins_dash rest) no_dash

  stands : (limit : ℕ) (d : D) (rest : List ℕ) → begins_dash rest ≡ false → AreWritable limit 0 (document_items d)
      → Stand limit (items_text (document_items d) ++ rest) 0 (entries d)
  stands limit d rest no_dash can =
      subst (λ (l : List NewItem). Stand limit (items_text l ++ rest) 0 (entries d)) (same_entries d)
      (stand_written limit (entries d) rest
      (subst (λ (l : List NewItem). AreWritable limit 0 l) (sym (same_entries d)) can)
      (closed (map item_of (entries d)) rest no_dash))

  abbrev taken_of : D → List (Taken V)
  taken_of d = taken_in 0 (section d)

  -- what is left behind its text
  abbrev left : ℕ → D → List ℕ → Contents
  left limit d rest = contents limit (0 + length (items_text (document_items d))) nothing rest

  -- its items are read first, and then those behind it
  goes_on : (limit : ℕ) (d : D) (rest : List ℕ) → begins_dash rest ≡ false → AreSpoken MayWrite (document_rows d)
      → AreWritable limit 0 (document_items d) → (size : ℕ)
      → document_of tables size (items_of limit (items_text (document_items d) ++ rest))
      ≡ read_items tables size tables.start (opening tables.first (taken_of d) None) (left limit d rest).fault
      (left limit d rest).items
  goes_on limit d rest no_dash are can size =
      let items = document_items d in
      let suits =
      suits_its_row tables m MayWrite IsRead laws first (opens d) limit 0
      (All-head (MayWrite first.kind) (opens d) [] are.0.each) can.0 in
      let from : 0 + limit ≡ limit = omega arith in
      ap (λ (n : ℕ). document_of tables size (contents n 0 nothing (items_text items ++ rest))) from
      ∙ ap (λ (c : Contents). document_of tables size c) (items_again limit 0 items rest can
      (closed items rest no_dash))
      ∙ ap (λ (l : List NewItem). document_of tables size (in_front (all_written 0 l) (left limit d rest)))
      (sym (same_entries d))
      ∙ first_read tables size tables.start tables.start 0 (section d) [] (left limit d rest).fault
      (left limit d rest).items
      refl is.begins (written_so limit d are can) (suits tables.start 0)
      (notes_nothing tables is.forgets tables.start (taken_of d))

  whole : (limit : ℕ) (d : D) → AreSpoken MayWrite (document_rows d) → AreWritable limit 0 (document_items d)
      → lacking_keyword (tables.rows tables.first) (taken_of d) ≡ None
  whole limit d are can = section_whole tables (section d) 0 (written_so limit d are can)

  -- Where what is left ends the document at a place, it is read up to there.
  read_to : (limit : ℕ) (d : D) (rest : List ℕ) (used : ℕ) → begins_dash rest ≡ false
      → AreSpoken MayWrite (document_rows d) → AreWritable limit 0 (document_items d)
      → ((size : ℕ) → read_items tables size tables.start (opening tables.first (taken_of d) None)
      (left limit d rest).fault
      (left limit d rest).items ≡ Ok (record { groups = group tables.first (taken_of d) ∷ []; used = used }))
      → IsReadAgain tables m limit (document_rows d) (items_text (document_items d) ++ rest) used
  read_to limit d rest used no_dash are can ends =
      let bytes = items_text (document_items d) ++ rest in
      record {
        taken = taken_of d;
        read = goes_on limit d rest no_dash are can (length bytes) ∙ ends (length bytes);
        says = all_spoken tables m MayWrite IsRead laws limit 0 bytes (document_rows d) are
            (stands limit d rest no_dash can);
      }

  -- What was written is read again: whatever the tables, the fields and the facts of their rows.
  pub document_again : (limit : ℕ) (d : D) → AreSpoken MayWrite (document_rows d)
      → AreWritable limit 0 (document_items d)
      → IsReadAgain tables m limit (document_rows d) (items_text (document_items d))
      (length (items_text (document_items d)))
  document_again limit d are can =
      let text = items_text (document_items d) in
      let made : IsReadAgain tables m limit (document_rows d) (text ++ []) (length (text ++ [])) =
      record {
        taken = taken_of d;
        read =
            goes_on limit d [] refl are can (length (text ++ []))
            ∙ ap (λ (c : Contents). read_items tables (length (text ++ [])) tables.start
            (opening tables.first (taken_of d) None) c.fault c.items) (nothing_left limit (0 + length text))
            ∙ closed_read tables (length (text ++ [])) tables.start tables.first (taken_of d)
            (whole limit d are can) is.ends;
        says = all_spoken tables m MayWrite IsRead laws limit 0 (text ++ []) (document_rows d) are
            (stands limit d [] refl can);
      } in
      subst (λ (l : List ℕ). IsReadAgain tables m limit (document_rows d) l (length l)) (append-nil text) made

  -- The same where one more first item follows, which begins the next document: it ends where its text ends.
  pub document_stops : (limit : ℕ) (d : D) (rest : List ℕ) (next : F) (after : Contents) → begins_dash rest ≡ false
      → AreSpoken MayWrite (document_rows d) → AreWritable limit 0 (document_items d)
      → IsAgain tables tables.first first again.Document → inner tables tables.first first.keyword ≡ None
      → left limit d rest ≡ in_front (written (0 + length (items_text (document_items d)))
      (new_item first.keyword (m.write first.kind next)) ∷ []) after
      → IsReadAgain tables m limit (document_rows d) (items_text (document_items d) ++ rest)
      (0 + length (items_text (document_items d)))
  document_stops limit d rest next after no_dash are can begins enters_none behind =
      let place = 0 + length (items_text (document_items d)) in
      let one = entry tables m MayWrite IsRead laws first next in
      let open_ = opening tables.first (taken_of d) None in
      let stops : made_by tables tables.start open_ (written place (item_of one)) ≡ Ok Stops =
      made_by-later tables tables.start tables.first
      (taken_at 0 (entry tables m MayWrite IsRead laws first (opens d))) (others_in 0 (section d)) None place one
      (fits tables tables.first (taken_at 0 (entry tables m MayWrite IsRead laws first (opens d)))
      (others_in 0 (section d))
      None place one first.keyword enters_none tt)
      ∙ stop_of tables tables.start open_ (written place (item_of one)) first begins (whole limit d are can)
      (laws.known first.kind (written place (item_of one))) in
      read_to limit d rest place no_dash are can
      (λ size. ap (λ (c : Contents). read_items tables size tables.start open_ c.fault c.items) behind
      ∙ stopped_read tables size tables.start tables.first (taken_of d) after.fault
      (written place (item_of one)) after.items stops)
