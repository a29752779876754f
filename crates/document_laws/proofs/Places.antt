-- Where a section may be open, and what is then known of a keyword.
use Rattle.std.proofs.Common.{◌≡◌, ℕ, ◌+◌, ◌-◌, ◌≤◌, Bool, true, false, List, [], ◌∷◌, ◌++◌, Option, Some, None, refl}
use Rattle.std.proofs.{Common.{sym, ap, subst, ◌∙◌, arith}, lemmas.{Bool.{false≢true, le-ltb}, Option.none-some}}
use Rattle.std.specs.{Prelude.{IfSome, nat_lt, ◌||◌, if◌then◌else◌}, List.list_any}
use Rattle.item_terms.specs.Items.{Item}
use Rattle.frame_terms.specs.declared.{document.{Group.Group, Taken.Taken}, fault.FrameReason.TheVariants.TooMany}
use Rattle.frame_terms.specs.{declared.{keyword.Keyword.Keyword, row.{Limit.Limit, Row.Row}}, Decisions.beyond}
use Rattle.frame_terms.specs.{Decisions.{beyond_inner, beyond_inside}, Keywords.same, Order.{following_sections, inner}}
use Rattle.frame_terms.specs.Order.{is_keyword, knows, knows_in, knows_inside, knows_with, opened_by, opener}
use Rattle.frame_terms.specs.{Order.section_if, Rows.limit_number, Sections.{row_of, stands}, Tables.Tables}
use Rattle.frame_laws.proofs.KnownWords.{same-sym, same-through}
use Rattle.document_laws.{proofs.{Openers.row_of-one, Lists.following_is, Parts.IsListed}, specs.Clear.AreClear}
use Rattle.document_laws.specs.{Clear.{IsEnd, IsEntrance}, Parts.EndsWithin}

-- ---- tests of a list

pub or_front : (a b : Bool) → (a || b) ≡ false → a ≡ false
or_front true b e = absurd (false≢true (sym e))
or_front false b e = refl

or_back : (a b : Bool) → (a || b) ≡ false → b ≡ false
or_back true b e = absurd (false≢true (sym e))
or_back false b e = e

-- what no element of a list passes, one of them does not, nor do those behind it
not_any : {A : Type 0} (f : A → Bool) (front : List A) (a : A) (rest : List A) → list_any f (front ++ a ∷ rest) ≡ false
    → (f a ≡ false) × (list_any f rest ≡ false)
not_any f [] a rest e = (or_front (f a) (list_any f rest) e, or_back (f a) (list_any f rest) e)
not_any f (other ∷ front) a rest e =
    not_any f front a rest (or_back (f other) (list_any f (front ++ a ∷ rest)) e)

-- what no section knows has no row
no_row : {K : Type 0} (rows : List (Row K)) (keyword : Keyword)
    → list_any (λ (row : Row K). same row.keyword keyword) rows ≡ false → row_of rows keyword ≡ None
no_row [] keyword none = refl
no_row (row ∷ rows) keyword none = by_test (same row.keyword keyword) none (no_row rows keyword)
  where
    by_test : (test : Bool) → (test || list_any (λ (other : Row _). same other.keyword keyword) rows) ≡ false
        → (list_any (λ (other : Row _). same other.keyword keyword) rows ≡ false → row_of rows keyword ≡ None)
        → (if test then Some row else row_of rows keyword) ≡ None
    by_test true e others = absurd (false≢true (sym e))
    by_test false e others = others e

-- ---- a limit

not_less : (limit place after : ℕ) → after ≤ place + limit → nat_lt limit (after - place) ≡ false
not_less limit place after is = le-ltb limit (after - place) (omega (arith, is))

pub never_past : (limit : Option Limit) (place : ℕ) (item : Item) → EndsWithin limit place item → beyond place limit item ≡ None
never_past None place item is = refl
never_past (Some limit) place item is =
    ap (λ (t : Bool). if t then Some (record { place = place + limit_number limit; reason = TooMany limit }) else None)
    (not_less (limit_number limit) place item.after is)

-- keywords that are one are the last or are not
pub keyword-one : (last : Option Keyword) (a b : Keyword) → same a b ≡ true → is_keyword last a ≡ is_keyword last b
keyword-one None a b is = refl
keyword-one (Some last) a b is = same-sym last a ∙ same-through a b last is ∙ same-sym b last

module _ {S K V X : Type 0} (tables : Tables S K V X) (clear : AreClear tables) where
  -- ---- where a section may be open

  -- a section that is open is one of the document's, or is inside one
  abbrev pub IsAt : S → Option (Group S V) → Type 0
  IsAt section None = IsListed tables section
  IsAt section (Some outer) = IsListed tables outer.section × ((tables.shape outer.section).inner ≡ Some section)

  -- an item of it is within its limit, if it is inside another
  abbrev pub IsNear : S → Option (Group S V) → Taken V → Item → Type 0
  IsNear section None first item = Unit {0}
  IsNear section (Some outer) first item = EndsWithin ((tables.shape section).limit) first.place item

  -- ---- what the tables say of a section

  -- its last item
  pub end_of : (section : S) (last : Keyword) → (tables.shape section).last ≡ Some last → IsEnd tables section last
  end_of section last e =
      subst (λ (l : Option Keyword). IfSome l (λ last. IsEnd tables section last)) e (clear.ends section)

  -- the section inside it
  pub entrance_of : (section inside : S) → (tables.shape section).inner ≡ Some inside → IsEntrance tables section inside
  entrance_of section inside e =
      subst (λ (s : Option S). IfSome s (λ inside. IsEntrance tables section inside)) e (clear.entrance section)

  -- its opener
  pub regarded_of : (section : S) (row : Row K) (item : Item)
      → row_of (tables.rows section) (opener tables section) ≡ Some row → tables.ignores row.kind item ≡ false
  regarded_of section row item e =
      subst (λ (r : Option (Row K)). IfSome r (λ (row : Row K). (item : Item) → tables.ignores row.kind item ≡ false)) e
      (clear.regarded section) item

  -- the sections that follow one of the document's
  pub follows : (section : S) (listed : IsListed tables section) → following_sections tables section ≡ listed.rest
  follows section listed = following_is tables listed.front section listed.rest listed.parts clear.sound.apart

  -- ---- a keyword that the document does not know

  unknown_with : (section : S) (keyword : Keyword) → IsListed tables section → knows tables keyword ≡ false
      → knows_with tables section keyword ≡ false
  unknown_with section keyword listed none =
      (not_any (λ other. knows_with tables other keyword) listed.front section listed.rest
      (sym (ap (λ (l : List S). list_any (λ other. knows_with tables other keyword) l) listed.parts) ∙ none)).0

  -- it has no row where a section may be open
  pub unknown_row : (section : S) (around : Option (Group S V)) (keyword : Keyword) → IsAt section around
      → knows tables keyword ≡ false → row_of (tables.rows section) keyword ≡ None
  unknown_row section None keyword at none =
      no_row (tables.rows section) keyword
      (or_front (knows_in tables section keyword) (knows_inside tables ((tables.shape section).inner) keyword)
      (unknown_with section keyword at none))
  unknown_row section (Some outer) keyword at none =
      no_row (tables.rows section) keyword
      (sym (ap (λ (s : Option S). knows_inside tables s keyword) at.1)
      ∙ or_back (knows_in tables outer.section keyword)
      (knows_inside tables ((tables.shape outer.section).inner) keyword)
      (unknown_with outer.section keyword at.0 none))

  -- it opens no section of a list of which none knows it
  opens_none : (keyword : Keyword) (list : List S) → list_any (λ other. knows_with tables other keyword) list ≡ false
      → opened_by tables keyword list ≡ None
  opens_none keyword [] none = refl
  opens_none keyword (other ∷ list) none =
      by_test (same (opener tables other) keyword) refl
      (opens_none keyword list
      (or_back (knows_with tables other keyword) (list_any (λ section. knows_with tables section keyword) list) none))
    where
      unknown_here : row_of (tables.rows other) keyword ≡ None
      unknown_here =
          no_row (tables.rows other) keyword
          (or_front (knows_in tables other keyword) (knows_inside tables ((tables.shape other).inner) keyword)
          (or_front (knows_with tables other keyword)
          (list_any (λ section. knows_with tables section keyword) list) none))

      by_test : (test : Bool) → same (opener tables other) keyword ≡ test → opened_by tables keyword list ≡ None
          → (if test then Some other else opened_by tables keyword list) ≡ None
      by_test false is others = others
      by_test true is others =
          let once = clear.sound.opener_once other in
          absurd (none-some once.row (sym unknown_here
          ∙ sym (row_of-one (tables.rows other) (opener tables other) keyword is) ∙ once.has_row))

  pub unknown_opens : (section : S) (around : Option (Group S V)) (keyword : Keyword) → IsAt section around
      → knows tables keyword ≡ false → opened_by tables keyword (following_sections tables section) ≡ None
  unknown_opens section None keyword at none =
      ap (λ (l : List S). opened_by tables keyword l) (follows section at)
      ∙ opens_none keyword at.rest
      (not_any (λ other. knows_with tables other keyword) at.front section at.rest
      (sym (ap (λ (l : List S). list_any (λ other. knows_with tables other keyword) l) at.parts) ∙ none)).1
  unknown_opens section (Some outer) keyword at none =
      ap (λ (l : List S). opened_by tables keyword l) (clear.sound.inner outer.section section at.1).apart

  -- ---- a keyword that begins no section inside

  -- keywords that are one begin the same
  pub inner-one : (section : S) (a b : Keyword) → same a b ≡ true → inner tables section a ≡ inner tables section b
  inner-one section a b is = of_option ((tables.shape section).inner)
    where
      of_option : (found : Option S) → section_if tables a found ≡ section_if tables b found
      of_option None = refl
      of_option (Some inside) =
          ap (λ (t : Bool). if t then Some inside else None)
          (same-sym (opener tables inside) a ∙ same-through a b (opener tables inside) is
          ∙ same-sym b (opener tables inside))

  begins_none : (section : S) (keyword : Keyword)
      → ((inside : S) → (tables.shape section).inner ≡ Some inside → same (opener tables inside) keyword ≡ true → ⊥)
      → inner tables section keyword ≡ None
  begins_none section keyword never = of_option ((tables.shape section).inner) refl
    where
      of_option : (found : Option S) → (tables.shape section).inner ≡ found → section_if tables keyword found ≡ None
      of_option None e = refl
      of_option (Some inside) e = by_test (same (opener tables inside) keyword) refl
        where
          by_test : (test : Bool) → same (opener tables inside) keyword ≡ test
              → (if test then Some inside else None) ≡ None
          by_test true is = absurd (never inside e is)
          by_test false is = refl

  -- one that has no row
  pub no_row_begins : (section : S) (keyword : Keyword) → row_of (tables.rows section) keyword ≡ None
      → inner tables section keyword ≡ None
  no_row_begins section keyword none =
      begins_none section keyword (λ inside e is.
      let entrance = entrance_of section inside e in
      none-some entrance.row (sym none
      ∙ sym (row_of-one (tables.rows section) (opener tables inside) keyword is) ∙ entrance.has_row))

  -- one whose row is ignored
  pub ignored_begins : (section : S) (keyword : Keyword) (row : Row K) (item : Item)
      → row_of (tables.rows section) keyword ≡ Some row → tables.ignores row.kind item ≡ true
      → inner tables section keyword ≡ None
  ignored_begins section keyword row item has_row ignored =
      begins_none section keyword (λ inside e is.
      let entrance = entrance_of section inside e in
      let rows : Some entrance.row ≡ Some row =
      sym entrance.has_row ∙ row_of-one (tables.rows section) (opener tables inside) keyword is ∙ has_row in
      false≢true (sym (entrance.regarded item) ∙ ap (λ (r : Option (Row K)). ignored_if r item) rows ∙ ignored))
    where
      ignored_if : Option (Row K) → Item → Bool
      ignored_if None item = false
      ignored_if (Some row) item = tables.ignores row.kind item

  -- a section's last
  pub last_begins : (section : S) (keyword : Keyword) → is_keyword ((tables.shape section).last) keyword ≡ true
      → inner tables section keyword ≡ None
  last_begins section keyword last =
      begins_none section keyword (λ inside e is.
      false≢true (sym (entrance_of section inside e).goes_on
      ∙ keyword-one ((tables.shape section).last) (opener tables inside) keyword is ∙ last))

  -- the section that a keyword begins inside another is what may stand there, and has it as its opener
  pub opens_inside : (keyword : Keyword) (found : Option S) (inside : S) → section_if tables keyword found ≡ Some inside
      → (found ≡ Some inside) × (same (opener tables inside) keyword ≡ true)
  opens_inside keyword None inside e = absurd (cc (e))
  opens_inside keyword (Some section) inside e = by_test (same (opener tables section) keyword) refl e
    where
      by_test : (test : Bool) → same (opener tables section) keyword ≡ test
          → (if test then Some section else None) ≡ Some inside
          → (Some section ≡ Some inside) × (same (opener tables inside) keyword ≡ true)
      by_test true is e = (e, cc (is, e))
      by_test false is e = absurd (cc (e))

  -- ---- an item that is beyond no limit

  -- one that begins no section inside this one
  pub never_beyond : (section : S) (around : Option (Group S V)) (first : Taken V) (taken : List (Taken V)) (item : Item)
      (keyword : Keyword) → IsNear section around first item → inner tables section keyword ≡ None
      → beyond_inner tables section (first ∷ taken) around item (Some keyword) ≡ None
  never_beyond section None first taken item keyword near none =
      ap (λ (s : Option S). beyond_inside tables item (if stands keyword (first ∷ taken) then None else s)) none
      ∙ either (stands keyword (first ∷ taken))
    where
      either : (test : Bool) → beyond_inside tables item (if test then None else None) ≡ None
      either true = refl
      either false = refl
  never_beyond section (Some outer) first taken item keyword near none =
      never_past ((tables.shape section).limit) first.place item near

  -- one that has no known keyword
  pub never_beyond_unknown : (section : S) (around : Option (Group S V)) (first : Taken V) (taken : List (Taken V))
      (item : Item) → IsNear section around first item
      → beyond_inner tables section (first ∷ taken) around item None ≡ None
  never_beyond_unknown section None first taken item near = refl
  never_beyond_unknown section (Some outer) first taken item near =
      never_past ((tables.shape section).limit) first.place item near

  -- one that stands already
  pub never_beyond_again : (section : S) (taken : List (Taken V)) (item : Item) (keyword : Keyword)
      → stands keyword taken ≡ true → beyond_inner tables section taken None item (Some keyword) ≡ None
  never_beyond_again section taken item keyword there =
      ap (λ (t : Bool). beyond_inside tables item (if t then None else inner tables section keyword)) there

  -- one that begins a section inside this one, within its limit
  pub never_beyond_inside : (section inside : S) (taken : List (Taken V)) (item : Item) (keyword : Keyword)
      → inner tables section keyword ≡ Some inside → EndsWithin ((tables.shape inside).limit) item.place item
      → beyond_inner tables section taken None item (Some keyword) ≡ None
  never_beyond_inside section inside taken item keyword begins within =
      ap (λ (s : Option S). beyond_inside tables item (if stands keyword taken then None else s)) begins
      ∙ either (stands keyword taken)
    where
      either : (test : Bool) → beyond_inside tables item (if test then None else Some inside) ≡ None
      either true = refl
      either false = never_past ((tables.shape inside).limit) item.place item within
