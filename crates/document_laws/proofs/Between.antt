-- Items that stand between a section's first and its last are read as its items.
use Rattle.std.proofs.Common.{◌≡◌, ℕ, true, List, [], ◌∷◌, ◌++◌, Option, Result, Ok, refl, sym, ap, ◌∙◌, append-nil}
use Rattle.std.{proofs.Common.{append_assoc, inl, inr}, specs.List.AllByRecursion}
use Rattle.item_terms.specs.{declared.fault.DocFault.DocFault, Items.Item}
use Rattle.frame_terms.specs.declared.document.{Group.Group, Made.{Made, TheVariants.{Passes, Pushes}}, Taken.Taken}
use Rattle.frame_terms.specs.{declared.{fault.ReadRefusal.ReadRefusal, keyword.Keyword.Keyword}, Decisions.made_by}
use Rattle.frame_terms.specs.{Documents.read_items, Keywords.same, Order.{inner, opener}, Standing.enters}
use Rattle.frame_terms.specs.Tables.{Tables}
use Rattle.frame_laws.proofs.{Reading.read_on, Steps.opening}
use Rattle.document_laws.specs.{Counts.RowsStand, Items.IsItemOf, Clear.AreClear, Parts.{AreBetween, IsOrdinary}}
use Rattle.document_laws.proofs.{Openers.row_of-same, Places.{IsAt, IsNear, inner-one, never_beyond}, Rows.is_new}
use Rattle.document_laws.proofs.{Rows.{named, not_opener}, Steps.{goes_in, passes}}

module _ {S K V X : Type 0} (tables : Tables S K V X) (clear : AreClear tables) where
  -- what an item's keyword begins is what its row's does
  pub word_begins : (across : X) (section : S) (item : Item) (one : Taken V)
      (said : IsItemOf tables across section item one)
      → inner tables section said.keyword ≡ inner tables section one.keyword
  word_begins across section item one said =
      sym (inner-one tables clear section said.row.keyword said.keyword
      (row_of-same (tables.rows section) said.keyword said.row said.has_row))
      ∙ ap (λ (k : Keyword). inner tables section k) (sym (named tables section across item one said))

  -- one more of the section that is open
  adds : (across next : X) (section : S) (around : Option (Group S V)) (first : Taken V) (taken : List (Taken V))
      (item : Item) (one : Taken V) (rest total : List (Taken V)) → IsNear tables clear section around first item
      → same (opener tables section) first.keyword ≡ true → RowsStand tables section total
      → total ≡ (first ∷ taken) ++ one ∷ rest → IsOrdinary tables across section item one next
      → made_by tables across (opening section (first ∷ taken) around) item ≡ Ok (Pushes one)
  adds across next section around first taken item one rest total near opens counts parts is =
      goes_in tables clear across next section around first taken item one is.stands
      (never_beyond tables clear section around first taken item is.stands.said.keyword near
      (word_begins across section item one is.stands.said ∙ is.begins_none)) is.goes_on
      (not_opener tables section (clear.sound.opener_once section) first taken one rest total counts opens parts)
      (is_new tables section across item one is.stands.said (first ∷ taken) rest total counts parts)
      ∙ ap (λ (s : Option S). as_ok (enters s one)) is.begins_none
    where
      as_ok : Made S V → Result (Made S V) ReadRefusal
      as_ok made = Ok made

  -- any number of them, and of those that are passed over
  pub between_read : (length : ℕ) (fault : Option DocFault) (section : S) (around : Option (Group S V)) (across : X)
      (first : Taken V) (taken : List (Taken V)) (items : List Item) (middle : List (Taken V)) (after : X)
      (tail total : List (Taken V)) (more : List Item) → IsAt tables clear section around
      → AllByRecursion (λ (item : Item). IsNear tables clear section around first item) items
      → same (opener tables section) first.keyword ≡ true → RowsStand tables section total
      → total ≡ first ∷ (taken ++ (middle ++ tail)) → AreBetween tables section across items middle after
      → read_items tables length across (opening section (first ∷ taken) around) fault (items ++ more)
      ≡ read_items tables length after (opening section (first ∷ (taken ++ middle)) around) fault more
  between_read length fault section around across first taken [] middle after tail total more at near opens counts parts
      (none, same_) =
      ap (λ (x : X). read_items tables length x (opening section (first ∷ taken) around) fault more) same_
      ∙ ap (λ (l : List (Taken V)). read_items tables length after (opening section (first ∷ l) around) fault more)
      (sym (append-nil taken) ∙ ap (λ (m : List (Taken V)). taken ++ m) (sym none))
  between_read length fault section around across first taken (item ∷ items) middle after tail total more at near opens
      counts parts (inl (is, rest)) =
      read_on tables length across across (opening section (first ∷ taken) around) fault item (items ++ more) Passes
      (passes tables clear across section around first taken item at near.0 is) refl
      ∙ between_read length fault section around across first taken items middle after tail total more at near.1 opens
      counts parts rest
  between_read length fault section around across first taken (item ∷ items) middle after tail total more at near opens
      counts parts (inr (one, others, next, are, is, rest)) =
      let here : total ≡ (first ∷ taken) ++ one ∷ (others ++ tail) =
      parts ∙ ap (λ (m : List (Taken V)). first ∷ (taken ++ (m ++ tail))) are in
      let further : total ≡ first ∷ ((taken ++ one ∷ []) ++ (others ++ tail)) =
      here ∙ ap (λ (l : List (Taken V)). first ∷ l) (sym (append_assoc taken (one ∷ []) (others ++ tail))) in
      read_on tables length across next (opening section (first ∷ taken) around) fault item (items ++ more)
      (Pushes one)
      (adds across next section around first taken item one (others ++ tail) total near.0 opens counts here is)
      is.stands.note
      ∙ between_read length fault section around next first (taken ++ one ∷ []) items others after tail total more at
      near.1 opens counts further rest
      ∙ ap (λ (l : List (Taken V)). read_items tables length after (opening section (first ∷ l) around) fault more)
      (append_assoc taken (one ∷ []) others ∙ ap (λ (m : List (Taken V)). taken ++ m) (sym are))
