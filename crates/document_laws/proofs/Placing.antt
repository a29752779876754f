-- Where the section that is open stands among those of its document.
use Rattle.std.proofs.Common.{◌≡◌, ℕ, ◌≤◌, Bool, true, false, List, [], ◌∷◌, ◌++◌, Option, Some, None, refl, sym, ap}
use Rattle.std.proofs.{Common.{◌∙◌, arith, subst, inl, inr}, lemmas.{Option.none-some, List.Folds.list_any-append}}
use Rattle.std.specs.Prelude.{◌⊎◌, ◌||◌, if◌then◌else◌}
use Rattle.item_terms.specs.Items.{Item}
use Rattle.frame_terms.specs.declared.{document.{Group.Group, Taken.Taken}, keyword.Keyword.Keyword, row.Count.Count}
use Rattle.frame_terms.specs.{Documents.group, Keywords.same, Order.{following_sections, is_keyword, opened_by, opener}}
use Rattle.frame_terms.specs.{Order.section_if, Rows.is_one, Sections.{lacking_keyword, stands}, Tables.Tables}
use Rattle.frame_laws.proofs.KnownWords.{same-sym, same-through}
use Rattle.document_laws.specs.{Counts.times, Order.BeginsWithOpener, Sound.{AreSound, StandsOnce}}
use Rattle.document_laws.proofs.{Counting.there_all, Lists.opened_after, Parts.{IsListed, next_listed}}
use Rattle.document_laws.proofs.{Times.none_stands, Ways.{IsAdded, IsAgain, IsEntering, IsLater, IsStopping}}

-- ---- a section inside another

module _ {S K V X : Type 0} (tables : Tables S K V X) where
  -- the section that a keyword opens inside another has it as its opener
  opens_inside : (keyword : Keyword) (found : Option S) (inside : S) → section_if tables keyword found ≡ Some inside
      → (found ≡ Some inside) × (same (opener tables inside) keyword ≡ true)
  opens_inside keyword None inside e = absurd (cc (e))
  opens_inside keyword (Some section) inside e = by_test (same (opener tables section) keyword) refl e
    where
      by_test : (test : Bool) → same (opener tables section) keyword ≡ test
          → (if test then Some section else None) ≡ Some inside
          → (Some section ≡ Some inside) × (same (opener tables inside) keyword ≡ true)
      by_test true is e = (e, cc (is, e))
      by_test false is e = absurd (cc (e))

  -- its last item does not stand
  abbrev pub IsNotEnded : S → List (Taken V) → Type 0
  IsNotEnded section taken =
      (keyword : Keyword) → (tables.shape section).last ≡ Some keyword → stands keyword taken ≡ false

  -- a section that is open inside another
  pub record IsInside (section : S) (taken : List (Taken V)) (outer : Group S V) : Type 0 where
    pub begun : BeginsWithOpener tables outer.section outer.taken
    pub inner : (tables.shape outer.section).inner ≡ Some section
    pub not_ended : IsNotEnded section taken

  abbrev pub AroundPlaced : S → List (Taken V) → Option (Group S V) → Type 0
  AroundPlaced section taken None = Unit {0}
  AroundPlaced section taken (Some outer) = IsInside section taken outer

  -- the section that stands inside no other
  abbrev pub top : S → Option (Group S V) → S
  top section None = section
  top section (Some outer) = outer.section

  -- nothing stands, or the opener does first
  abbrev pub IsBegun : S → List (Taken V) → Type 0
  IsBegun section [] = Unit {0}
  IsBegun section (first ∷ taken) = same (opener tables section) first.keyword ≡ true

  pub begun_of : (section : S) (taken : List (Taken V)) → BeginsWithOpener tables section taken → IsBegun section taken
  begun_of section [] begins = tt
  begun_of section (first ∷ taken) begins = begins

  -- what is open, and where it stands
  pub record IsPlaced (section : S) (taken : List (Taken V)) (around : Option (Group S V)) : Type 0 where
    pub listed : IsListed tables (top section around)
    pub begun : IsBegun section taken
    pub around_is : AroundPlaced section taken around

  -- ---- what stands

  -- an item that has to stand does where nothing is lacking
  pub stands_once : (section : S) (taken : List (Taken V)) (keyword : Keyword) → StandsOnce tables section keyword
      → lacking_keyword (tables.rows section) taken ≡ None → 1 ≤ times keyword taken
  stands_once section taken keyword once none =
      there_all tables section taken none keyword once.row once.has_row (ap (λ (c : Count). is_one c) once.once)

  -- one item that does not end a section is not its last
  not_last : (last : Option Keyword) (one keyword : Keyword) → is_keyword last one ≡ false → last ≡ Some keyword
      → same one keyword ≡ false
  not_last None one keyword no_ e = absurd (cc (e))
  not_last (Some other) one keyword no_ e = same-sym one keyword ∙ cc (no_, e)

  -- with one item more that does not end it
  pub not_ended_more : (across : X) (section : S) (taken : List (Taken V)) (item : Item) (one : Taken V)
      → IsAdded tables across section taken item one → IsNotEnded section taken
      → IsNotEnded section (taken ++ one ∷ [])
  not_ended_more across section taken item one added not_ended keyword last =
      list_any-append (λ (other : Taken V). same other.keyword keyword) taken (one ∷ [])
      ∙ ap (λ (t : Bool). t || (same one.keyword keyword || false)) (not_ended keyword last)
      ∙ ap (λ (t : Bool). t || false)
      (not_last ((tables.shape section).last) one.keyword keyword added.goes_on last)

  -- the opener of a section that ends with another item does not end it
  pub not_ended_opener : (section : S) (ends : Keyword) (one : Taken V) → (tables.shape section).last ≡ Some ends
      → same ends (opener tables section) ≡ false → same (opener tables section) one.keyword ≡ true
      → IsNotEnded section (one ∷ [])
  not_ended_opener section ends one ends_is later opens keyword last =
      let it : keyword ≡ ends = cc (last, ends_is) in
      let differs : same one.keyword ends ≡ false =
      sym (same-through (opener tables section) one.keyword ends opens)
      ∙ same-sym (opener tables section) ends ∙ later in
      ap (λ (k : Keyword). same one.keyword k || false) it ∙ ap (λ (t : Bool). t || false) differs

module _ {S K V X : Type 0} (tables : Tables S K V X) (sound : AreSound tables) where
  -- ---- the end of a document

  -- where nothing is lacking, no section is open inside another
  pub closes_alone : (section : S) (taken : List (Taken V)) (around : Option (Group S V))
      → lacking_keyword (tables.rows section) taken ≡ None → IsPlaced tables section taken around → around ≡ None
  closes_alone section taken None whole is = refl
  closes_alone section taken (Some outer) whole is =
      let is_inner = sound.inner outer.section section is.around_is.inner in
      let some : 1 ≤ times is_inner.last taken =
      stands_once tables section taken is_inner.last is_inner.last_once whole in
      let no_ : times is_inner.last taken ≡ 0 =
      none_stands is_inner.last taken (is.around_is.not_ended is_inner.last is_inner.ends) in
      absurd (neither_way (times is_inner.last taken) some no_)
    where
      neither_way : (n : ℕ) → 1 ≤ n → n ≡ 0 → ⊥
      neither_way n some no_ = omega (arith, some, no_)

  -- no document begins inside a section that is inside another
  pub stops_alone : (section : S) (taken : List (Taken V)) (around : Option (Group S V))
      → IsStopping tables section taken → IsPlaced tables section taken around → around ≡ None
  stops_alone section taken None stopping is = refl
  stops_alone section taken (Some outer) stopping is =
      let is_inner = sound.inner outer.section section is.around_is.inner in
      absurd (cc (is_inner.again, stopping.stops))

  -- ---- an item

  -- one more of the section that is open
  pub adds_placed : (across : X) (section : S) (first : Taken V) (taken : List (Taken V)) (around : Option (Group S V))
      (item : Item) (one : Taken V) → IsAdded tables across section (first ∷ taken) item one
      → IsPlaced tables section (first ∷ taken) around → IsPlaced tables section (first ∷ (taken ++ one ∷ [])) around
  adds_placed across section first taken None item one added is =
      record { listed = is.listed; begun = is.begun; around_is = tt }
  adds_placed across section first taken (Some outer) item one added is = record {
    listed = is.listed;
    begun = is.begun;
    around_is = record {
      begun = is.around_is.begun;
      inner = is.around_is.inner;
      not_ended = not_ended_more tables across section (first ∷ taken) item one added is.around_is.not_ended;
    };
  }

  -- a section that is open and stands inside no other
  pub placed_alone : (section : S) (one : Taken V) → IsListed tables section
      → same (opener tables section) one.keyword ≡ true → IsPlaced tables section (one ∷ []) None
  placed_alone section one listed opens = record { listed = listed; begun = opens; around_is = tt }

  -- the next section, which stands inside no other
  pub opens_alone : (section : S) (taken : List (Taken V)) (around : Option (Group S V)) (other : S)
      → IsLater tables section other ⊎ IsAgain tables section other → IsPlaced tables section taken around
      → around ≡ None
  opens_alone section taken None other follows is = refl
  opens_alone section taken (Some outer) other (inl later) is =
      let is_inner = sound.inner outer.section section is.around_is.inner in
      absurd (none_opens later.keyword (following_sections tables section) is_inner.apart later.opened)
    where
      none_opens : (keyword : Keyword) (list : List S) → list ≡ [] → opened_by tables keyword list ≡ Some other → ⊥
      none_opens keyword [] none e = absurd (cc (e))
      none_opens keyword (s ∷ list) none e = absurd (cc (none))
  opens_alone section taken (Some outer) other (inr once_more) is =
      let is_inner = sound.inner outer.section section is.around_is.inner in
      absurd (cc (is_inner.again, once_more.repeats))

  -- it is one of the document's
  pub opens_listed : (section other : S) → IsListed tables section
      → IsLater tables section other ⊎ IsAgain tables section other → IsListed tables other
  opens_listed section other listed (inl later) =
      next_listed tables sound section other listed
      (opened_after tables later.keyword (following_sections tables section) other later.opened later.passes_none)
  opens_listed section other listed (inr once_more) =
      subst (λ (s : S). IsListed tables s) (sym once_more.same_name) listed

  pub opens_placed : (section : S) (first : Taken V) (taken : List (Taken V)) (around : Option (Group S V)) (other : S)
      (one : Taken V) → same (opener tables other) one.keyword ≡ true
      → IsLater tables section other ⊎ IsAgain tables section other → IsPlaced tables section (first ∷ taken) around
      → IsPlaced tables other (one ∷ []) around
  opens_placed section first taken None other one opens follows is =
      placed_alone other one (opens_listed section other is.listed follows) opens
  opens_placed section first taken (Some outer) other one opens follows is =
      absurd (none-some outer (sym (opens_alone section (first ∷ taken) (Some outer) other follows is)))

  -- a section inside another, which stands inside no other
  pub enters_alone : (across : X) (section : S) (taken : List (Taken V)) (around : Option (Group S V)) (inside : S)
      (item : Item) (one : Taken V) → IsEntering tables across section taken inside item one
      → IsPlaced tables section taken around → around ≡ None
  enters_alone across section taken None inside item one entering is = refl
  enters_alone across section taken (Some outer) inside item one entering is =
      let parts = opens_inside tables one.keyword ((tables.shape section).inner) inside entering.begins in
      let is_inner = sound.inner outer.section section is.around_is.inner in
      absurd (cc (is_inner.plain, parts.0))

  pub enters_placed : (across : X) (section : S) (first : Taken V) (taken : List (Taken V)) (inside : S) (item : Item)
      (one : Taken V) → IsEntering tables across section (first ∷ taken) inside item one
      → IsPlaced tables section (first ∷ taken) None
      → IsPlaced tables inside (one ∷ []) (Some (group section (first ∷ (taken ++ one ∷ []))))
  enters_placed across section first taken inside item one entering is =
      let parts = opens_inside tables one.keyword ((tables.shape section).inner) inside entering.begins in
      record {
        listed = is.listed;
        begun = parts.1;
        around_is = record {
          begun = is.begun;
          inner = parts.0;
          not_ended =
              let is_inner = sound.inner section inside parts.0 in
              not_ended_opener tables inside is_inner.last one is_inner.ends is_inner.later parts.1;
        };
      }

  -- the section around goes on
  pub leaves_placed : (section : S) (taken : List (Taken V)) (outer : Group S V)
      → IsPlaced tables section taken (Some outer) → IsPlaced tables outer.section outer.taken None
  leaves_placed section taken outer is = record {
    listed = is.listed;
    begun = begun_of tables outer.section outer.taken is.around_is.begun;
    around_is = tt;
  }
