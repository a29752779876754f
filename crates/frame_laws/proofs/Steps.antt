-- What an item makes of a document that says what a section's table asks for.
use Rattle.std.proofs.Common.{◌≡◌, ℕ, Bool, true, false, List, [], ◌∷◌, Option, Some, None, Result, Ok, Err, refl, sym}
use Rattle.std.{proofs.Common.{ap, subst, ◌∙◌}, specs.Prelude.{not, ◌&&◌, if◌then◌else◌}}
use Rattle.item_terms.specs.Items.{Item}
use Rattle.dirdoc_grammar.specs.Writing.{written}
use Rattle.frame_terms.specs.{Decisions.{beyond_inner, made_by, made_later, unless_fault}, Order.first_of}
use Rattle.frame_terms.specs.Order.{following_sections, inner, is_keyword, opened_by, passed_over}
use Rattle.frame_terms.specs.{Refusals.refusal_at, Rows.is_many, Sections.{accept, lacking_keyword, lacking_but}}
use Rattle.frame_terms.specs.{Sections.{row_of, stands, taken_as, taken_of}, Standing.{as_made, begins, begins_again}}
use Rattle.frame_terms.specs.Standing.{by_keyword, by_row, elsewhere, ends, enters, goes_on, in_section, unless}
use Rattle.frame_terms.specs.{Tables.Tables, declared.document.{Group.Group, Made.{Made, TheVariants.{Passes, Pushes}}}}
use Rattle.frame_terms.specs.declared.document.{Made.TheVariants.{Opens, Stops}, Open.Open, Taken.Taken}
use Rattle.frame_terms.specs.declared.fault.{FrameFault.FrameFault, FrameReason.TheVariants.Twice}
use Rattle.frame_terms.specs.declared.{fault.ReadRefusal.ReadRefusal, keyword.Keyword.Keyword, row.Row.Row}
use Rattle.frame_terms.specs.declared.section.Again.{Again}
use Rattle.frame_terms.specs.declared.section.Again.TheVariants as again
use Rattle.frame_laws.proofs.{Entries.{Entry, Suits, after_one, item_of, taken_at}, KnownWords.known, Limits.FitsIn}
use Rattle.frame_laws.proofs.Limits.{fits, limit_inside}

module _ {S V : Type 0} where
  -- what is open in a section that has these items
  abbrev pub opening : S → List (Taken V) → Option (Group S V) → Open S V
  opening section taken around = record { section = section; taken = taken; around = around }

-- ---- an item that is accepted

module _ {K V : Type 0} where
  -- an item's keyword stands not yet in a section
  abbrev pub IsNew : Row K → List (Taken V) → Type 0
  IsNew row taken = (not (is_many row.count) && stands row.keyword taken) ≡ false

module _ {K : Type 0} where
  -- a row of which none stands may stand
  pub new_of_none : (V : Type 0) (row : Row K) → IsNew {V = V} row []
  new_of_none V row = neither (is_many row.count)
    where
      neither : (many : Bool) → (not many && false) ≡ false
      neither true = refl
      neither false = refl

module _ {S K V X : Type 0} where
  -- what is accepted is what is taken
  pub accepted : (tables : Tables S K V X) (across : X) (row : Row K) (taken : List (Taken V)) (place : ℕ)
      (entry : Entry V)
      → IsNew row taken → Suits tables across row place entry
      → accept tables across row taken (written place (item_of entry)) ≡ Ok (taken_at place entry)
  accepted tables across row taken place entry new suits =
      let item = written place (item_of entry) in
      let twice : Result (Taken V) ReadRefusal = Err (refusal_at place (Twice row.keyword)) in
      let as_taken : Keyword → Result (Taken V) ReadRefusal =
      λ keyword. Ok (taken_of keyword item (entry.value place)) in
      ap (λ (t : Bool). if t then twice else taken_as row.keyword item (tables.value_of across row.kind item)) new
      ∙ ap (λ (v : Result V FrameFault). taken_as row.keyword item v) suits.value
      ∙ ap as_taken suits.keyword

  -- ---- a later item

  -- what a later item makes that is beyond no limit is by its keyword
  pub made_by-later : (tables : Tables S K V X) (across : X) (section : S) (first : Taken V) (taken : List (Taken V))
      (around : Option (Group S V))
      (place : ℕ) (entry : Entry V)
      → beyond_inner tables section (first ∷ taken) around (written place (item_of entry)) (Some entry.keyword) ≡ None
      → made_by tables across (opening section (first ∷ taken) around) (written place (item_of entry))
      ≡ by_keyword tables across (opening section (first ∷ taken) around) (written place (item_of entry))
      (Some entry.keyword)
  made_by-later tables across section first taken around place entry fits =
      let item = written place (item_of entry) in
      let open_ = opening section (first ∷ taken) around in
      let k = entry.keyword in
      ap (λ (word : Option Keyword). made_later tables across open_ item word) (known k)
      ∙ ap (λ (f : Option FrameFault). unless_fault f (by_keyword tables across open_ item (Some k))) fits

-- ---- by the row of its keyword in the section that is open

-- what a section's table says of an item that is not its last: its row, and that it begins nothing
pub record IsAmong {S K V X : Type 0} (tables : Tables S K V X) (section : S) (row : Row K) : Type 0 where
  pub row_there : row_of (tables.rows section) row.keyword ≡ Some row
  pub not_last : is_keyword ((tables.shape section).last) row.keyword ≡ false
  pub begins_nothing : begins_again tables section row ≡ again.Nothing

-- what it says of its last item
pub record IsLastOf {S K V X : Type 0} (tables : Tables S K V X) (section : S) (row : Row K) : Type 0 where
  pub row_there : row_of (tables.rows section) row.keyword ≡ Some row
  pub last : is_keyword ((tables.shape section).last) row.keyword ≡ true

-- what it says of one more of its opener, which begins the next section or the next document
pub record IsAgain {S K V X : Type 0} (tables : Tables S K V X) (section : S) (row : Row K)
    (begins : Again) : Type 0 where
  pub row_there : row_of (tables.rows section) row.keyword ≡ Some row
  pub not_last : is_keyword ((tables.shape section).last) row.keyword ≡ false
  pub begins_it : begins_again tables section row ≡ begins

-- what the tables say of an item that opens a later section
pub record IsOpener {S K V X : Type 0} (tables : Tables S K V X) (section next : S) (row : Row K) : Type 0 where
  pub not_here : row_of (tables.rows section) row.keyword ≡ None
  pub opens : opened_by tables row.keyword (following_sections tables section) ≡ Some next
  pub passes_none : passed_over tables row.keyword (following_sections tables section) ≡ None
  pub row_there : row_of (tables.rows next) row.keyword ≡ Some row

module _ {S K V X : Type 0} where
  -- an item of a row of the section that is open
  in_row : (tables : Tables S K V X) (across : X) (open_ : Open S V) (item : Item) (row : Row K)
      → row_of (tables.rows open_.section) row.keyword ≡ Some row → tables.ignores row.kind item ≡ false
      → by_keyword tables across open_ item (Some row.keyword) ≡ in_section tables across open_ item row
  in_row tables across open_ item row there known_ =
      ap (λ (r : Option (Row K)). by_row tables across open_ item row.keyword r) there
      ∙ ap (λ (t : Bool). if t then passes else in_section tables across open_ item row) known_
    where
      passes : Result (Made S V) ReadRefusal
      passes = Ok Passes

  -- an item of the section that is open, which does not end it
  going_on : (tables : Tables S K V X) (across : X) (open_ : Open S V) (item : Item) (row : Row K) (begins_ : Again)
      → is_keyword ((tables.shape open_.section).last) row.keyword ≡ false
      → begins_again tables open_.section row ≡ begins_
      → in_section tables across open_ item row ≡ goes_on tables across open_ item row begins_
  going_on tables across open_ item row begins_ not_last begins_it =
      let last : Result (Made S V) ReadRefusal =
      unless item.place (lacking_but (tables.rows open_.section) row.keyword open_.taken)
      (as_made (ends open_.around) (accept tables across row open_.taken item)) in
      ap (λ (t : Bool). if t then last else goes_on tables across open_ item row
      (begins_again tables open_.section row)) not_last
      ∙ ap (λ (a : Again). goes_on tables across open_ item row a) begins_it

  -- an item of a section that ends nothing
  pub among : (tables : Tables S K V X) (across : X) (open_ : Open S V) (place : ℕ) (entry : Entry V) (row : Row K)
      → IsAmong tables open_.section row → IsNew row open_.taken → Suits tables across row place entry
      → by_keyword tables across open_ (written place (item_of entry)) (Some row.keyword)
      ≡ Ok (enters (inner tables open_.section row.keyword) (taken_at place entry))
  among tables across open_ place entry row here new suits =
      let item = written place (item_of entry) in
      in_row tables across open_ item row here.row_there suits.known
      ∙ going_on tables across open_ item row again.Nothing here.not_last here.begins_nothing
      ∙ ap (λ (r : Result (Taken V) ReadRefusal). as_made (enters (inner tables open_.section row.keyword)) r)
      (accepted tables across row open_.taken place entry new suits)

  -- the last item of a section that lacks nothing else
  pub last_of : (tables : Tables S K V X) (across : X) (open_ : Open S V) (place : ℕ) (entry : Entry V) (row : Row K)
      → IsLastOf tables open_.section row → lacking_but (tables.rows open_.section) row.keyword open_.taken ≡ None
      → IsNew row open_.taken
      → Suits tables across row place entry
      → by_keyword tables across open_ (written place (item_of entry)) (Some row.keyword)
      ≡ Ok (ends open_.around (taken_at place entry))
  last_of tables across open_ place entry row here whole new suits =
      let item = written place (item_of entry) in
      let k = row.keyword in
      let accepts : Result (Made S V) ReadRefusal =
      as_made (ends open_.around) (accept tables across row open_.taken item) in
      let other = goes_on tables across open_ item row (begins_again tables open_.section row) in
      in_row tables across open_ item row here.row_there suits.known
      ∙ ap (λ (t : Bool). if t then unless place
      (lacking_but (tables.rows open_.section) k open_.taken) accepts else other) here.last
      ∙ ap (λ (m : Option Keyword). unless place m accepts) whole
      ∙ ap (λ (r : Result (Taken V) ReadRefusal). as_made (ends open_.around) r)
      (accepted tables across row open_.taken place entry new suits)

  -- one more of its opener, where it may stand again and lacks nothing
  pub again_of : (tables : Tables S K V X) (across : X) (open_ : Open S V) (place : ℕ) (entry : Entry V) (row : Row K)
      → IsAgain tables open_.section row again.Section → lacking_keyword (tables.rows open_.section) open_.taken ≡ None
      → Suits tables across row place entry
      → by_keyword tables across open_ (written place (item_of entry)) (Some row.keyword)
      ≡ Ok (Opens open_.section (taken_at place entry))
  again_of tables across open_ place entry row here whole suits =
      let item = written place (item_of entry) in
      let first : Result (Made S V) ReadRefusal = as_made (Opens open_.section) (accept tables across row [] item) in
      in_row tables across open_ item row here.row_there suits.known
      ∙ going_on tables across open_ item row again.Section here.not_last here.begins_it
      ∙ ap (λ (m : Option Keyword). unless place m first) whole
      ∙ ap (λ (r : Result (Taken V) ReadRefusal). as_made (Opens open_.section) r)
      (accepted tables across row [] place entry (new_of_none V row) suits)

  -- the opener of the next document, where the section lacks nothing
  pub stop_of : (tables : Tables S K V X) (across : X) (open_ : Open S V) (item : Item) (row : Row K)
      → IsAgain tables open_.section row again.Document → lacking_keyword (tables.rows open_.section) open_.taken ≡ None
      → tables.ignores row.kind item ≡ false → by_keyword tables across open_ item (Some row.keyword) ≡ Ok Stops
  stop_of tables across open_ item row here whole known_ =
      in_row tables across open_ item row here.row_there known_
      ∙ going_on tables across open_ item row again.Document here.not_last here.begins_it
      ∙ ap (λ (m : Option Keyword). unless item.place m stops) whole
    where
      stops : Result (Made S V) ReadRefusal
      stops = Ok Stops

  -- the first item of a later section, where the one before lacks nothing
  pub opener_of : (tables : Tables S K V X) (across : X) (open_ : Open S V) (next : S) (place : ℕ) (entry : Entry V)
      (row : Row K)
      → IsOpener tables open_.section next row → lacking_keyword (tables.rows open_.section) open_.taken ≡ None
      → Suits tables across row place entry
      → by_keyword tables across open_ (written place (item_of entry)) (Some row.keyword)
      ≡ Ok (Opens next (taken_at place entry))
  opener_of tables across open_ next place entry row here whole suits =
      let item = written place (item_of entry) in
      let k = row.keyword in
      let others = following_sections tables open_.section in
      let begun = begins tables across (Opens next) item (row_of (tables.rows next) k) in
      ap (λ (r : Option (Row K)). by_row tables across open_ item k r) here.not_here
      ∙ ap (λ (s : Option S). elsewhere tables across open_ item k s) here.opens
      ∙ ap (λ (m : Option Keyword). unless place (first_of m (passed_over tables k others)) begun) whole
      ∙ ap (λ (m : Option Keyword). unless place m begun) here.passes_none
      ∙ ap (λ (r : Option (Row K)). begins tables across (Opens next) item r) here.row_there
      ∙ ap (λ (r : Result (Taken V) ReadRefusal). as_made (Opens next) r)
      (accepted tables across row [] place entry (new_of_none V row) suits)

-- ---- one more item of a section

-- what its section's table says of it: it ends nothing and begins nothing
pub record IsInTable {S K V X : Type 0} (tables : Tables S K V X) (section : S) (row : Row K) : Type 0 where
  pub here : IsAmong tables section row
  pub enters_none : inner tables section row.keyword ≡ None

module _ {S K V X : Type 0} where
  -- a later item of a section, which ends nothing and opens nothing
  pub later_item_is_pushed : (tables : Tables S K V X) (across : X) (section : S) (first : Taken V) (taken : List (Taken V))
      (around : Option (Group S V))
      (place : ℕ) (entry : Entry V) (row : Row K) → IsInTable tables section row
      → FitsIn (limit_inside tables section around) first.place (after_one place entry) → IsNew row (first ∷ taken)
      → Suits tables across row place entry
      → made_by tables across (opening section (first ∷ taken) around) (written place (item_of entry))
      ≡ Ok (Pushes (taken_at place entry))
  later_item_is_pushed tables across section first taken around place entry row table within new suits =
      let item = written place (item_of entry) in
      let open_ = opening section (first ∷ taken) around in
      let k = suits.keyword in
      made_by-later tables across section first taken around place entry
      (subst (λ (w : Keyword). beyond_inner tables section (first ∷ taken) around item (Some w) ≡ None) k
      (fits tables section first taken around place entry row.keyword table.enters_none within))
      ∙ ap (λ (w : Keyword). by_keyword tables across open_ item (Some w)) (sym k)
      ∙ among tables across open_ place entry row table.here new suits
      ∙ ap (λ (s : Option S). as_ok (enters s (taken_at place entry))) table.enters_none
    where
      as_ok : Made S V → Result (Made S V) ReadRefusal
      as_ok made = Ok made
