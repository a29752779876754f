-- A section of a document: its items in any order after its first one, with the counts of its table.
use Rattle.std.specs.Prelude.{◌+◌, Bool, not, ◌&&◌, List, length, Option, Some, None, Result, Ok, Err, if◌then◌else◌}
use Rattle.std.specs.List.{find, list_any}
use Rattle.item_terms.specs.Items.{Item}
use Rattle.frame_terms.specs.declared.{document.Taken.Taken, fault.FrameFault.FrameFault}
use Rattle.frame_terms.specs.declared.fault.{FrameReason.TheVariants.Twice, ReadRefusal.ReadRefusal}
use Rattle.frame_terms.specs.declared.{fault.ReadRefusal.TheVariants.Frame, keyword.Keyword.Keyword, row.Row.Row}
use Rattle.frame_terms.specs.{Keywords.same, Refusals.refusal_at, Rows.{is_one, is_many}, Tables.Tables}

module _ {K : Type 0} where
  -- the row of a keyword
  abbrev pub row_of : List (Row K) → Keyword → Option (Row K)
  row_of rows keyword = find (λ (row : Row K). same row.keyword keyword) rows

  -- the keyword of a row
  abbrev pub keyword_if : Option (Row K) → Option Keyword
  keyword_if None = None
  keyword_if (Some row) = Some row.keyword

module _ {V : Type 0} where
  -- whether an item of this keyword is among those taken
  abbrev pub stands : Keyword → List (Taken V) → Bool
  stands keyword taken = list_any (λ (one : Taken V). same one.keyword keyword) taken

  -- an item that says this, with its places
  abbrev pub taken_of : Keyword → Item → V → Taken V
  taken_of keyword item value = record {
    keyword = keyword;
    value = value;
    place = item.place;
    separator = item.place + length item.keyword;
    line_end = item.line_end;
    after = item.after;
  }

  -- an item with what it says, or what is wrong with it
  abbrev pub taken_as : Keyword → Item → Result V FrameFault → Result (Taken V) ReadRefusal
  taken_as keyword item (Err fault) = Err (Frame fault)
  taken_as keyword item (Ok value) = Ok (taken_of keyword item value)

module _ {K V : Type 0} where
  -- the keyword of the first row that lacks its item
  abbrev pub lacking_keyword : List (Row K) → List (Taken V) → Option Keyword
  lacking_keyword rows taken = keyword_if (find (λ (row : Row K). is_one row.count && not (stands row.keyword taken)) rows)

  -- the same of the rows but the one of this last keyword
  abbrev pub lacking_but : List (Row K) → Keyword → List (Taken V) → Option Keyword
  lacking_but rows last taken =
      keyword_if (find (λ (row : Row K). is_one row.count && not (same row.keyword last) && not (stands row.keyword taken)) rows)

module _ {S K V X : Type 0} where
  -- an item of this row after those that are taken: Twice, then what is wrong with what it says
  abbrev pub accept : Tables S K V X → X → Row K → List (Taken V) → Item → Result (Taken V) ReadRefusal
  accept tables across row taken item =
      if not (is_many row.count) && stands row.keyword taken then Err (refusal_at item.place (Twice row.keyword))
      else taken_as row.keyword item (tables.value_of across row.kind item)
