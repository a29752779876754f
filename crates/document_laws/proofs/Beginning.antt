-- A section from its first item on, and one that comes behind another.
use Rattle.std.proofs.Common.{◌≡◌, ℕ, suc, true, false, List, [], ◌∷◌, ◌++◌, Option, None, refl, sym, ap, subst, ◌∙◌}
use Rattle.std.{proofs.Common.{append_assoc, inl, inr}, specs.Prelude.◌⊎◌}
use Rattle.item_terms.specs.{declared.fault.DocFault.DocFault, Items.Item}
use Rattle.frame_terms.specs.declared.{document.{Group.Group, Taken.Taken}, keyword.Keyword.Keyword}
use Rattle.frame_terms.specs.{declared.section.Again.Again, Documents.{Document, group}, Keywords.same}
use Rattle.frame_terms.specs.{Order.{following_sections, opener}, Tables.Tables}
use Rattle.frame_terms.specs.declared.section.Again.TheVariants as again
use Rattle.frame_laws.proofs.KnownWords.{same-sym}
use Rattle.document_laws.specs.{Counts.RowsStand, Items.IsItemOf, Order.{AreInOrder, MayStand, Part, items_of}}
use Rattle.document_laws.{specs.{Clear.AreClear, Parts.{AreOthers, Stands}}, proofs.Lists.{IsAfter, following_is}}
use Rattle.document_laws.proofs.{Lists.{in_order_skipped, opened_after}, Openers.{row_of-one, row_of-same}}
use Rattle.document_laws.proofs.{Parts.{IsListed, names}, Rules.behind, Ways.{IsAgain, IsLater}, Following.ComeBehind}
use Rattle.document_laws.proofs.{Growing.done_tail, Middles.Extends, Places.{follows, regarded_of}, Rows.named}
use Rattle.document_laws.proofs.{Steps.same-both, Tails.{HasAll, HasTail, ends_more, ends_so}}

-- where more of a section may stand, one more may
pub may_more : (more : Again) (number : ℕ) → (number ≡ 0) ⊎ (more ≡ again.Section) → MayStand more (suc number)
may_more again.Nothing number (inl none) = ap (λ (n : ℕ). suc n) none
may_more again.Nothing number (inr is) = absurd (cc (is))
may_more again.Section number may = tt
may_more again.Document number (inl none) = ap (λ (n : ℕ). suc n) none
may_more again.Document number (inr is) = absurd (cc (is))

module _ {S K V X : Type 0} (tables : Tables S K V X) (clear : AreClear tables) where
  -- ---- an opener

  -- it is never ignored
  pub opener_regarded : (across : X) (section : S) (item : Item) (one : Taken V)
      (said : IsItemOf tables across section item one) → same (opener tables section) one.keyword ≡ true
      → tables.ignores said.row.kind item ≡ false
  opener_regarded across section item one said opens =
      let k = said.row.keyword in
      let row_opens : same (opener tables section) k ≡ true =
      ap (λ (w : Keyword). same (opener tables section) w) (sym (named tables section across item one said)) ∙ opens in
      let word : same (opener tables section) said.keyword ≡ true =
      same-both k (opener tables section) said.keyword (same-sym k (opener tables section) ∙ row_opens)
      (row_of-same (tables.rows section) said.keyword said.row said.has_row) in
      regarded_of tables clear section said.row item
      (row_of-one (tables.rows section) (opener tables section) said.keyword word ∙ said.has_row)

  -- ---- the order of what comes behind a section

  following_next : (section next : S) → IsListed tables section → (is : IsAfter tables (following_sections tables section) next)
      → following_sections tables next ≡ is.rest
  following_next section next listed is =
      following_is tables (listed.front ++ section ∷ is.skipped) next is.rest
      (listed.parts
      ∙ ap (λ (l : List S). listed.front ++ section ∷ l) (sym (follows tables clear section listed) ∙ is.parts)
      ∙ sym (append_assoc listed.front (section ∷ is.skipped) (next ∷ is.rest))) clear.sound.apart

  behind_later : (section next : S) (standing : List S) → IsListed tables section
      → IsAfter tables (following_sections tables section) next → ComeBehind tables next standing
      → ComeBehind tables section (next ∷ standing)
  behind_later section next standing listed is behind_ = record {
    number = 0;
    others = next ∷ standing;
    are = refl;
    may = inl refl;
    in_order = subst (λ (l : List S). AreInOrder tables l (next ∷ standing)) (sym is.parts)
        (in_order_skipped tables is.skipped (next ∷ is.rest) (next ∷ standing) is.repeat (
          suc behind_.number,
          behind_.others,
          ap (λ (l : List S). next ∷ l) behind_.are,
          may_more ((tables.shape next).again) behind_.number behind_.may,
          subst (λ (l : List S). AreInOrder tables l behind_.others) (following_next section next listed is)
              behind_.in_order,
        ));
  }

  behind_again : (section next : S) (standing : List S) → next ≡ section
      → (tables.shape section).again ≡ again.Section → ComeBehind tables next standing
      → ComeBehind tables section (next ∷ standing)
  behind_again section next standing is repeats_ behind_ =
      let here : ComeBehind tables section standing =
      subst (λ (s : S). ComeBehind tables s standing) is behind_ in
      record {
        number = suc here.number;
        others = here.others;
        are = ap (λ (s : S). s ∷ standing) is ∙ ap (λ (l : List S). section ∷ l) here.are;
        may = inr repeats_;
        in_order = here.in_order;
      }

  pub come_behind : (section next : S) (standing : List S) → IsListed tables section
      → IsLater tables section next ⊎ IsAgain tables section next → ComeBehind tables next standing
      → ComeBehind tables section (next ∷ standing)
  come_behind section next standing listed (inl later) behind_ =
      behind_later section next standing listed
      (opened_after tables later.keyword (following_sections tables section) next later.opened later.passes_none) behind_
  come_behind section next standing listed (inr once_more) behind_ =
      behind_again section next standing once_more.same_name once_more.repeats behind_

module _ {S K V X : Type 0} (tables : Tables S K V X) (length : ℕ) (fault : Option DocFault) where
  -- ---- a section from its first item on

  pub begins_all : (section : S) (across next : X) (item : Item) (items : List Item) (document : Document S V)
      (one : Taken V) → Stands tables across section item one next → same (opener tables section) one.keyword ≡ true
      → HasTail tables length fault (AreOthers tables section) section one [] next items document
      → HasAll tables length fault section across (item ∷ items) document
  begins_all section across next item items document one is opens tail =
      let own = item ∷ (tail.items_between ++ tail.items_last) in
      let part : Part S V = record {
        items = own;
        inside = tail.inside;
        whole = group section (one ∷ (tail.between ++ tail.last));
      } in
      record {
        part = part;
        parts = tail.parts;
        left = tail.left;
        next = tail.next;
        named = refl;
        come = ap (λ (l : List Item). item ∷ l) tail.come ∙ sym (append_assoc own (items_of tail.parts) tail.left);
        are = tail.are;
        is = record {
          first_item = item;
          items_between = tail.items_between;
          items_last = tail.items_last;
          come = refl;
          first_one = one;
          between = tail.between;
          last = tail.last;
          are = refl;
          with_first = next;
          before_last = tail.before_last;
          begins = is;
          opens = opens;
          others = tail.others;
          ends = tail.ends;
          counts = tail.counts;
        };
        each = tail.each;
        behind = tail.behind;
        stops = ends_so tables length fault part section own tail.parts tail.left document.used refl refl
            (ends_more tables length fault section item (tail.items_between ++ tail.items_last) tail.parts tail.left
            document.used tail.stops);
      }

  -- behind another
  pub opens_tail : (clear : AreClear tables) (section : S)
      (Middle : X → List Item → List (Group S V) → List (Taken V) → X → Type 0) → Extends tables section Middle
      → (first : Taken V) (taken : List (Taken V)) (across : X) (other : S) (items : List Item) (document : Document S V)
      → IsListed tables section → (tables.shape section).last ≡ None → RowsStand tables section (first ∷ taken)
      → IsLater tables section other ⊎ IsAgain tables section other
      → HasAll tables length fault other across items document
      → HasTail tables length fault Middle section first taken across items
      (behind (group section (first ∷ taken)) document)
  opens_tail clear section Middle extends first taken across other items document listed no_last counts how all =
      done_tail tables length fault section Middle extends first taken across items
      (behind (group section (first ∷ taken)) document) (all.part ∷ all.parts) all.left no_last counts all.come
      (ap (λ (g : List (Group S V)). group section (first ∷ taken) ∷ g) all.are) (all.next, all.is, all.each)
      (subst (λ (s : S). ComeBehind tables section (s ∷ names all.parts)) (sym all.named)
      (come_behind tables clear section other (names all.parts) listed how all.behind))
      all.stops
