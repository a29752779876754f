-- What stands in a section is said by an item of the input, by the row of its keyword.
use Rattle.std.proofs.Common.{◌≡◌, ℕ, Bool, true, false, List, [], ◌∷◌, ◌++◌, Some, Ok, refl, sym, ap, subst, ◌∙◌, inl}
use Rattle.std.{proofs.Common.inr, specs.Prelude.{IfSome, if◌then◌else◌}}
use Rattle.item_terms.specs.Items.{Item, items_from}
use Rattle.dirdoc_grammar.{specs.InPlace.EachInPlace, proofs.Places.stand_in_place}
use Rattle.frame_terms.specs.{declared.{document.Taken.Taken, keyword.Keyword.Keyword, row.Row.Row}, Keywords.same}
use Rattle.frame_terms.specs.{Order.inner, Sections.row_of, Tables.Tables}
use Rattle.frame_values.specs.Values.{item_at}
use Rattle.frame_laws.proofs.KnownWords.{same-through}
use Rattle.document_laws.{specs.Items.{AreItemsIn, IsItemIn, IsItemOf}, proofs.Openers.{row_of-one, row_of-same}}
use Rattle.row_laws.proofs.{ItemArguments.IsSound, ItemRests.{HaveRests, have_rests}}

-- ---- the items of an input

-- the parts of each item stand in the input
abbrev pub EachSound : List ℕ → List Item → Type 0
EachSound bytes [] = Unit {0}
EachSound bytes (item ∷ items) = IsSound bytes item × EachSound bytes items

both_sound : (bytes : List ℕ) (items : List Item) → EachInPlace bytes items → HaveRests items → EachSound bytes items
both_sound bytes [] stand have = tt
both_sound bytes (item ∷ items) stand have =
    (record { in_place = stand.0; rest = have.0 }, both_sound bytes items stand.1 have.1)

-- each is sound
pub all_sound : (start limit : ℕ) (bytes : List ℕ) → EachSound bytes (items_from start limit bytes).items
all_sound start limit bytes =
    both_sound bytes (items_from start limit bytes).items (stand_in_place start limit bytes)
    (have_rests start limit bytes)

-- those behind some are sound too
pub sound_parts : (bytes : List ℕ) (before rest : List Item) → EachSound bytes (before ++ rest) → EachSound bytes rest
sound_parts bytes [] rest each = each
sound_parts bytes (item ∷ before) rest each = sound_parts bytes before rest each.1

-- ---- what stands in a section

-- an item of the input says this, by a row of this kind
pub record Says {S K V X : Type 0} (tables : Tables S K V X) (bytes : List ℕ) (kind : K) (value : V) : Type 0 where
  pub remembered : X
  pub item : Item
  pub sound : IsSound bytes item
  pub says : tables.value_of remembered kind item ≡ Ok value

-- an item of the input stands there
pub record Stands {S K V X : Type 0} (tables : Tables S K V X) (bytes : List ℕ) (section : S) (one : Taken V)
    : Type 0 where
  pub remembered : X
  pub item : Item
  pub sound : IsSound bytes item
  pub within : IsItemIn tables remembered section item one

module _ {S K V X : Type 0} (tables : Tables S K V X) (bytes : List ℕ) where
  abbrev pub EachStands : S → List (Taken V) → Type 0
  EachStands section [] = Unit {0}
  EachStands section (one ∷ taken) = Stands tables bytes section one × EachStands section taken

  pub each_stands : (section : S) (items : List Item) (taken : List (Taken V)) → EachSound bytes items
      → AreItemsIn tables section items taken → EachStands section taken
  each_stands section items [] sound are = tt
  each_stands section items (one ∷ taken) sound are =
      let here =
      sound_parts bytes are.0 (are.1 ∷ are.2) (subst (λ (l : List Item). EachSound bytes l) are.3 sound) in (
        record { remembered = are.4; item = are.1; sound = here.0; within = are.5 },
        each_stands section are.2 taken here.1 are.6,
      )

  -- so does the first of a keyword
  pub found : (section : S) (taken : List (Taken V)) (keyword : Keyword) → EachStands section taken
      → IfSome (item_at taken keyword) (λ one. Stands tables bytes section one × (same one.keyword keyword ≡ true))
  found section [] keyword each = tt
  found section (one ∷ taken) keyword each =
      by (same one.keyword keyword) refl (found section taken keyword each.1)
    where
      by : (t : Bool) → same one.keyword keyword ≡ t
          → IfSome (item_at taken keyword) (λ o. Stands tables bytes section o × (same o.keyword keyword ≡ true))
          → IfSome (if t then Some one else item_at taken keyword)
          (λ o. Stands tables bytes section o × (same o.keyword keyword ≡ true))
      by true is later = (each.0, is)
      by false is later = later

  -- by the row of its keyword
  pub by_own_row : (section : S) (remembered : X) (item : Item) (one : Taken V) (keyword : Keyword) (row : Row K)
      → IsItemOf tables remembered section item one → same one.keyword keyword ≡ true
      → row_of (tables.rows section) keyword ≡ Some row → tables.value_of remembered row.kind item ≡ Ok one.value
  by_own_row section remembered item one keyword row t named there =
      let rows = tables.rows section in
      let its : same t.row.keyword keyword ≡ true =
      ap (λ (o : Taken V). same o.keyword keyword) (sym t.stands) ∙ named in
      let word : same t.keyword keyword ≡ true =
      sym (same-through t.row.keyword t.keyword keyword (row_of-same rows t.keyword t.row t.has_row)) ∙ its in
      let both : Some t.row ≡ Some row = sym t.has_row ∙ row_of-one rows t.keyword keyword word ∙ there in
      let one_row : t.row ≡ row = same_row t.row row both in
      subst (λ (v : V). tables.value_of remembered row.kind item ≡ Ok v) (ap (λ (o : Taken V). o.value) (sym t.stands))
      (ap (λ (r : Row K). tables.value_of remembered r.kind item) (sym one_row) ∙ t.says)
    where
      same_row : (a b : Row K) → Some a ≡ Some b → a ≡ b
      same_row a b is = cc

  pub of_row : (section : S) (one : Taken V) (keyword : Keyword) (row : Row K)
      → ((around : S) → inner tables around one.keyword ≡ Some section → ⊥)
      → row_of (tables.rows section) keyword ≡ Some row → Stands tables bytes section one
      → same one.keyword keyword ≡ true → Says tables bytes row.kind one.value
  of_row section one keyword row apart there stands named =
      record {
        remembered = stands.remembered;
        item = stands.item;
        sound = stands.sound;
        says = by stands.within;
      }
    where
      by : IsItemIn tables stands.remembered section stands.item one
          → tables.value_of stands.remembered row.kind stands.item ≡ Ok one.value
      by (inl is) = by_own_row section stands.remembered stands.item one keyword row is named there
      by (inr is) = absurd (apart is.around is.begins)
