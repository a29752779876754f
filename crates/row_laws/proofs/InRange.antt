-- What stands in a section says what the words of items of the input mean, and is in range, whatever the tables.
use Rattle.std.proofs.Common.{◌≡◌, ℕ, List, [], ◌∷◌, Option, Some, refl, sym, subst, inl, inr}
use Rattle.item_terms.specs.Items.{Item}
use Rattle.frame_terms.specs.{Tables.Tables, declared.{document.Taken.Taken, row.Row.Row}}
use Rattle.document_laws.specs.Items.{IsItemIn, IsItemOf}
use Rattle.row_laws.proofs.{ItemArguments.IsSound, Saying.EachStands, Rows.{Meaning, ReadLaws}, Spoken.words_in}
use Rattle.row_laws.proofs.Ties.{Gives}

-- ---- what each says

-- An item that was taken says what the words of an item of the input mean, by the kind of a row of its keyword: no
-- place
-- has a part in it. It is in range.
pub record IsMeant {K V F : Type 0} (m : Meaning K V F) (IsRead : K → F → Type 0) (bytes : List ℕ) (one : Taken V)
    : Type 0 where
  pub row : Row K
  pub named : row.keyword ≡ one.keyword
  pub item : Item
  pub means : m.means row.kind (words_in item) ≡ Some (m.said bytes one.value)
  pub in_range : IsRead row.kind (m.said bytes one.value)

module _ {S K V X F : Type 0} (tables : Tables S K V X) (m : Meaning K V F)
    (IsRead : K → F → Type 0) (laws : ReadLaws tables m IsRead) (bytes : List ℕ) where
  by_row : (across : X) (section : S) (item : Item) (one : Taken V) → IsSound bytes item
      → IsItemOf tables across section item one → IsMeant m IsRead bytes one
  by_row across section item one sound is =
      let kind = is.row.kind in
      let meant = laws.says across kind bytes item is.value sound is.says in
      subst (λ (t : Taken V). IsMeant m IsRead bytes t) (sym is.stands) (record {
        row = is.row;
        named = refl;
        item = item;
        means = meant;
        in_range =
            subst (λ (o : Option F). Gives (IsRead kind) o) meant (laws.fits kind (words_in item) sound.rest);
      })

  by_either : (across : X) (section : S) (item : Item) (one : Taken V) → IsSound bytes item
      → IsItemIn tables across section item one → IsMeant m IsRead bytes one
  by_either across section item one sound (inl is) = by_row across section item one sound is
  by_either across section item one sound (inr is) = by_row across is.around item one sound is.taken

  -- each of these does
  abbrev pub EachMeant : List (Taken V) → Type 0
  EachMeant [] = Unit {0}
  EachMeant (one ∷ taken) = IsMeant m IsRead bytes one × EachMeant taken

  -- so does what stands in a section
  pub each_meant : (section : S) (taken : List (Taken V)) → EachStands tables bytes section taken → EachMeant taken
  each_meant section [] stand = tt
  each_meant section (one ∷ taken) stand = (
    by_either stand.0.remembered section stand.0.item one stand.0.sound stand.0.within,
    each_meant section taken stand.1,
  )
