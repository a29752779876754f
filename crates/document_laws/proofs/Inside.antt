-- A section inside another is read, and the other goes on.
use Rattle.std.proofs.Common.{◌≡◌, ℕ, true, List, [], ◌∷◌, ◌++◌, Option, Some, None, Result, Ok, sym, ap, subst, ◌∙◌}
use Rattle.std.{proofs.Common.{append_assoc, inl, inr}, specs.List.AllByRecursion}
use Rattle.item_terms.specs.{declared.fault.DocFault.DocFault, Items.Item}
use Rattle.frame_terms.specs.declared.document.{Group.Group, Made.{Made, TheVariants.{Enters, Leaves}}, Taken.Taken}
use Rattle.frame_terms.specs.{declared.{fault.ReadRefusal.ReadRefusal, keyword.Keyword.Keyword}, Decisions.made_by}
use Rattle.frame_terms.specs.{Documents.{Document, group, onto, read_items}, Keywords.same, Order.{inner, is_keyword}}
use Rattle.frame_terms.specs.{Order.opener, Standing.enters, Tables.Tables}
use Rattle.frame_laws.proofs.{Reading.read_on, Steps.opening}
use Rattle.document_laws.specs.{Counts.RowsStand, Clear.AreClear, Parts.{AreOthers, EndsWithin, HasLast, HaveInside}}
use Rattle.document_laws.{specs.Parts.{IsInside, Stands}, proofs.{Parts.IsListed, Between.{between_read, word_begins}}}
use Rattle.document_laws.proofs.Places.{IsNear, entrance_of, keyword-one, never_beyond_inside, never_past, opens_inside}
use Rattle.document_laws.proofs.{Rows.{is_new, none_lacks, not_opener}, Steps.{ends_it, goes_in}}

module _ {A : Type 0} where
  -- what holds of two lists holds of each
  all_front : (P : A → Type 0) (front back : List A) → AllByRecursion P (front ++ back) → AllByRecursion P front
  all_front P [] back all = tt
  all_front P (a ∷ front) back all = (all.0, all_front P front back all.1)

  all_back : (P : A → Type 0) (front back : List A) → AllByRecursion P (front ++ back) → AllByRecursion P back
  all_back P [] back all = all
  all_back P (a ∷ front) back all = all_back P front back all.1

module _ {S V : Type 0} where
  -- sections in front of those that follow
  abbrev pub all_onto : List (Group S V) → Result (Document S V) ReadRefusal → Result (Document S V) ReadRefusal
  all_onto [] read = read
  all_onto (whole ∷ groups) read = onto whole (all_onto groups read)

module _ {S K V X : Type 0} (tables : Tables S K V X) (clear : AreClear tables) where
  -- nothing is near or far where a section is inside no other
  pub all_near : (section : S) (first : Taken V) (items : List Item)
      → AllByRecursion (λ (item : Item). IsNear tables clear section None first item) items
  all_near section first [] = tt
  all_near section first (item ∷ items) = (tt, all_near section first items)

  -- ---- the first item of a section inside another

  enters_it : (across next : X) (section inside : S) (first : Taken V) (taken : List (Taken V)) (item : Item)
      (one : Taken V) (tail total : List (Taken V)) → same (opener tables section) first.keyword ≡ true
      → RowsStand tables section total → total ≡ (first ∷ taken) ++ one ∷ tail
      → Stands tables across section item one next → inner tables section one.keyword ≡ Some inside
      → EndsWithin ((tables.shape inside).limit) item.place item
      → made_by tables across (opening section (first ∷ taken) None) item ≡ Ok (Enters inside one)
  enters_it across next section inside first taken item one tail total opens counts parts is begins within =
      let found = opens_inside tables clear one.keyword ((tables.shape section).inner) inside begins in
      goes_in tables clear across next section None first taken item one is
      (never_beyond_inside tables clear section inside (first ∷ taken) item is.said.keyword
      (word_begins tables clear across section item one is.said ∙ begins) within)
      (sym (keyword-one ((tables.shape section).last) (opener tables inside) one.keyword found.1)
      ∙ (entrance_of tables clear section inside found.0).goes_on)
      (not_opener tables section (clear.sound.opener_once section) first taken one tail total counts opens parts)
      (is_new tables section across item one is.said (first ∷ taken) tail total counts parts)
      ∙ ap (λ (s : Option S). as_ok (enters s one)) begins
    where
      as_ok : Made S V → Result (Made S V) ReadRefusal
      as_ok made = Ok made

  -- ---- its last item

  leaves_it : (across next : X) (inside : S) (outer : Group S V) (first : Taken V) (taken : List (Taken V)) (item : Item)
      (one : Taken V) (last : Keyword) (total : List (Taken V)) → RowsStand tables inside total
      → total ≡ (first ∷ taken) ++ one ∷ [] → (tables.shape inside).last ≡ Some last → same last one.keyword ≡ true
      → EndsWithin ((tables.shape inside).limit) first.place item → Stands tables across inside item one next
      → made_by tables across (opening inside (first ∷ taken) (Some outer)) item ≡ Ok (Leaves one)
  leaves_it across next inside outer first taken item one last total counts parts last_is is_last near is =
      ends_it tables clear across next inside (Some outer) first taken item one is
      (never_past ((tables.shape inside).limit) first.place item near)
      (ap (λ (l : Option Keyword). is_keyword l one.keyword) last_is ∙ is_last)
      (is_new tables inside across item one is.said (first ∷ taken) [] total counts parts)
      (none_lacks tables inside (clear.rows_apart inside) one (first ∷ taken) total counts parts)

  -- ---- a section inside another

  -- its last item is read, and the other section goes on
  left_read : (length : ℕ) (fault : Option DocFault) (inside section : S) (around taken : List (Taken V)) (across next : X)
      (first : Taken V) (items : List Item) (last : Keyword) (lasts total : List (Taken V)) (more : List Item)
      → RowsStand tables inside total
      → total ≡ first ∷ (taken ++ lasts) → (tables.shape inside).last ≡ Some last
      → AllByRecursion (λ (item : Item). EndsWithin ((tables.shape inside).limit) first.place item) items
      → HasLast tables inside (Some last) across items lasts next
      → read_items tables length across (opening inside (first ∷ taken) (Some (group section around))) fault
      (items ++ more)
      ≡ onto (group inside total) (read_items tables length next (opening section around None) fault more)
  left_read length fault inside section around taken across next first items last lasts total more counts parts last_is
      near (item, one, items_are, lasts_are, is, is_last) =
      let whole : total ≡ (first ∷ taken) ++ one ∷ [] =
      parts ∙ ap (λ (l : List (Taken V)). first ∷ (taken ++ l)) lasts_are in
      let near_one = subst (λ (l : List Item).
      AllByRecursion (λ (i : Item). EndsWithin ((tables.shape inside).limit) first.place i) l) items_are near in
      ap (λ (l : List Item).
      read_items tables length across (opening inside (first ∷ taken) (Some (group section around))) fault (l ++ more))
      items_are
      ∙ read_on tables length across next (opening inside (first ∷ taken) (Some (group section around))) fault item more
      (Leaves one)
      (leaves_it across next inside (group section around) first taken item one last total counts whole last_is is_last
      near_one.0 is) is.note
      ∙ ap (λ (l : List (Taken V)).
      onto (group inside l) (read_items tables length next (opening section around None) fault more)) (sym whole)

  pub inside_read : (length : ℕ) (fault : Option DocFault) (section : S) (across : X) (first : Taken V)
      (taken : List (Taken V)) (items : List Item) (one : Taken V) (whole : Group S V) (next : X)
      (tail total : List (Taken V)) (more : List Item) → IsListed tables section
      → same (opener tables section) first.keyword ≡ true → RowsStand tables section total
      → total ≡ (first ∷ taken) ++ one ∷ tail → IsInside tables across section items one whole next
      → read_items tables length across (opening section (first ∷ taken) None) fault (items ++ more)
      ≡ onto whole (read_items tables length next (opening section (first ∷ (taken ++ one ∷ [])) None) fault more)
  inside_read length fault section across first taken items one whole next tail total more listed opens counts parts is =
      let inside = whole.section in
      let outer : Group S V = group section (first ∷ (taken ++ one ∷ [])) in
      let found = opens_inside tables clear one.keyword ((tables.shape section).inner) inside is.opens in
      let is_inner = clear.sound.inner section inside found.0 in
      let placed : one.place ≡ is.first_item.place = ap (λ (o : Taken V). o.place) is.begins.said.stands in
      let near = subst (λ (l : List Item). AllByRecursion
      (λ (i : Item). EndsWithin ((tables.shape inside).limit) is.first_item.place i) l) is.come is.within in
      let near_others : AllByRecursion (λ (i : Item). EndsWithin ((tables.shape inside).limit) one.place i)
      (is.items_between ++ is.items_last) =
      subst (λ (p : ℕ). AllByRecursion (λ (i : Item). EndsWithin ((tables.shape inside).limit) p i)
      (is.items_between ++ is.items_last)) (sym placed) near.1 in
      ap (λ (l : List Item).
      read_items tables length across (opening section (first ∷ taken) None) fault (l ++ more)) is.come
      ∙ read_on tables length across is.with_first (opening section (first ∷ taken) None) fault is.first_item
      ((is.items_between ++ is.items_last) ++ more) (Enters inside one)
      (enters_it across is.with_first section inside first taken is.first_item one tail total opens counts parts is.begins
      is.opens near.0) is.begins.note
      ∙ ap (λ (l : List Item). read_items tables length is.with_first (opening inside (one ∷ []) (Some outer)) fault l)
      (append_assoc is.items_between is.items_last more)
      ∙ between_read tables clear length fault inside (Some outer) is.with_first one [] is.items_between is.between
      is.before_last is.last whole.taken (is.items_last ++ more) (listed, found.0)
      (all_front (λ (i : Item). EndsWithin ((tables.shape inside).limit) one.place i) is.items_between is.items_last
      near_others)
      found.1 is.counts is.are is.others
      ∙ left_read length fault inside section (first ∷ (taken ++ one ∷ [])) is.between is.before_last next one
      is.items_last is_inner.last is.last whole.taken more is.counts is.are is_inner.ends
      (all_back (λ (i : Item). EndsWithin ((tables.shape inside).limit) one.place i) is.items_between is.items_last
      near_others)
      (subst (λ (l : Option Keyword). HasLast tables inside l is.before_last is.items_last is.last next) is_inner.ends
      is.ends)

  -- ---- the items of a section behind its opener

  with_inside : (length : ℕ) (fault : Option DocFault) (section : S) (across : X) (first : Taken V) (items : List Item)
      (inside : List (Group S V)) (taken : List (Taken V)) (next : X) (tail total : List (Taken V)) (more : List Item)
      → IsListed tables section → same (opener tables section) first.keyword ≡ true → RowsStand tables section total
      → total ≡ first ∷ (taken ++ tail) → HaveInside tables section across items inside taken next
      → read_items tables length across (opening section (first ∷ []) None) fault (items ++ more)
      ≡ all_onto inside (read_items tables length next (opening section (first ∷ taken) None) fault more)
  with_inside length fault section across first items inside taken next tail total more listed opens counts parts has =
      let whole_is : total ≡ first ∷ ((has.before ++ has.one ∷ has.behind) ++ tail) =
      parts ∙ ap (λ (l : List (Taken V)). first ∷ (l ++ tail)) has.are in
      let whole_before : total ≡ first ∷ (has.before ++ has.one ∷ (has.behind ++ tail)) =
      whole_is ∙ ap (λ (l : List (Taken V)). first ∷ l) (append_assoc has.before (has.one ∷ has.behind) tail) in
      let whole_behind : total ≡ first ∷ ((has.before ++ has.one ∷ []) ++ (has.behind ++ tail)) =
      whole_before ∙ ap (λ (l : List (Taken V)). first ∷ l)
      (sym (append_assoc has.before (has.one ∷ []) (has.behind ++ tail))) in
      ap (λ (l : List Item). read_items tables length across (opening section (first ∷ []) None) fault l)
      (ap (λ (l : List Item). l ++ more) has.come
      ∙ append_assoc has.items_before (has.items_inside ++ has.items_behind) more)
      ∙ between_read tables clear length fault section None across first [] has.items_before has.before has.when_begun
      (has.one ∷ (has.behind ++ tail)) total ((has.items_inside ++ has.items_behind) ++ more) listed
      (all_near section first has.items_before) opens counts whole_before has.first
      ∙ ap (λ (l : List Item).
      read_items tables length has.when_begun (opening section (first ∷ has.before) None) fault l)
      (append_assoc has.items_inside has.items_behind more)
      ∙ inside_read length fault section has.when_begun first has.before has.items_inside has.one has.whole has.when_left
      (has.behind ++ tail) total (has.items_behind ++ more) listed opens counts whole_before has.is
      ∙ ap (λ (r : Result (Document S V) ReadRefusal). onto has.whole r)
      (between_read tables clear length fault section None has.when_left first (has.before ++ has.one ∷ [])
      has.items_behind has.behind next tail total more listed (all_near section first has.items_behind) opens counts
      whole_behind has.others)
      ∙ ap (λ (l : List (Taken V)).
      onto has.whole (read_items tables length next (opening section (first ∷ l) None) fault more))
      (append_assoc has.before (has.one ∷ []) has.behind ∙ sym has.are)
      ∙ ap (λ (g : List (Group S V)).
      all_onto g (read_items tables length next (opening section (first ∷ taken) None) fault more)) (sym has.only)

  pub others_read : (length : ℕ) (fault : Option DocFault) (section : S) (across : X) (first : Taken V)
      (items : List Item) (inside : List (Group S V)) (taken : List (Taken V)) (next : X) (tail total : List (Taken V))
      (more : List Item)
      → IsListed tables section → same (opener tables section) first.keyword ≡ true → RowsStand tables section total
      → total ≡ first ∷ (taken ++ tail) → AreOthers tables section across items inside taken next
      → read_items tables length across (opening section (first ∷ []) None) fault (items ++ more)
      ≡ all_onto inside (read_items tables length next (opening section (first ∷ taken) None) fault more)
  others_read length fault section across first items inside taken next tail total more listed opens counts parts
      (inl (none, are)) =
      between_read tables clear length fault section None across first [] items taken next tail total more listed
      (all_near section first items) opens counts parts are
      ∙ ap (λ (g : List (Group S V)).
      all_onto g (read_items tables length next (opening section (first ∷ taken) None) fault more)) (sym none)
  others_read length fault section across first items inside taken next tail total more listed opens counts parts
      (inr has) =
      with_inside length fault section across first items inside taken next tail total more listed opens counts parts has
