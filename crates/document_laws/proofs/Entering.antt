-- A section inside another, from the item that begins it to its last.
use Rattle.std.proofs.Common.{◌≡◌, ℕ, ◌+◌, ◌-◌, ◌≤◌, Bool, true, false, List, [], ◌∷◌, ◌++◌, Option, Some, None, refl}
use Rattle.std.proofs.{Common.{sym, ap, subst, ◌∙◌, append_assoc, arith, inr}, lemmas.Bool.ltb-false}
use Rattle.std.{proofs.lemmas.List.Folds.list_any-append, specs.Prelude.{nat_lt, not, ◌&&◌, ◌||◌, if◌then◌else◌}}
use Rattle.std.specs.List.{AllByRecursion}
use Rattle.item_terms.specs.{declared.fault.DocFault.DocFault, Items.Item}
use Rattle.frame_terms.specs.declared.{document.{Group.Group, Taken.Taken}, fault.FrameFault.FrameFault}
use Rattle.frame_terms.specs.declared.{fault.FrameReason.TheVariants.TooMany, keyword.Keyword.Keyword, row.Limit.Limit}
use Rattle.frame_terms.specs.{declared.row.Row.Row, Decisions.{beyond, beyond_inner, beyond_inside, section_inside}}
use Rattle.frame_terms.specs.{Documents.{Document, group}, Keywords.{same, word_of}, Order.{inner, is_keyword, opener}}
use Rattle.frame_terms.specs.{Rows.{is_many, limit_number}, Sections.stands, Tables.Tables}
use Rattle.frame_laws.proofs.KnownWords.{same-sym, same-through}
use Rattle.document_laws.specs.{Counts.RowsStand, Items.IsItemOf, Order.{items_of, sections_of}, Clear.AreClear}
use Rattle.document_laws.{specs.Parts.{AreOthers, EndsWithin, Stands}, proofs.{Openers.row_of-one, Rules.behind}}
use Rattle.document_laws.proofs.{Ways.IsAccepted, Between.word_begins, Growing.last_has, Middles.NoneInside}
use Rattle.document_laws.proofs.{Places.{entrance_of, opens_inside}, Rows.named, Tails.{EndsBehind, HasInnerTail}}
use Rattle.document_laws.proofs.Tails.{HasTail, ends_front}

-- ---- limits

-- an item that is not beyond a limit ends within it
pub within_of : (limit : Option Limit) (place : ℕ) (item : Item) → beyond place limit item ≡ None
    → EndsWithin limit place item
within_of None place item is = tt
within_of (Some limit) place item is = by_test (nat_lt (limit_number limit) (item.after - place)) refl is
  where
    fault : FrameFault
    fault = record { place = place + limit_number limit; reason = TooMany limit }

    within : item.after - place ≤ limit_number limit → item.after ≤ place + limit_number limit
    within few = omega (arith, few)

    by_test : (test : Bool) → nat_lt (limit_number limit) (item.after - place) ≡ test
        → (if test then Some fault else None) ≡ None → item.after ≤ place + limit_number limit
    by_test true e none = absurd (cc (none))
    by_test false e none = within (ltb-false (limit_number limit) (item.after - place) e)

-- ---- items that stand

module _ {V : Type 0} where
  -- what stands, stands with more
  pub stands_more : (keyword : Keyword) (front back : List (Taken V)) → stands keyword front ≡ true
      → stands keyword (front ++ back) ≡ true
  stands_more keyword front back is =
      list_any-append (λ (other : Taken V). same other.keyword keyword) front back
      ∙ ap (λ (t : Bool). t || stands keyword back) is

  -- the last stands
  pub stands_last : (keyword : Keyword) (front : List (Taken V)) (one : Taken V) → same one.keyword keyword ≡ true
      → stands keyword (front ++ one ∷ []) ≡ true
  stands_last keyword front one is =
      list_any-append (λ (other : Taken V). same other.keyword keyword) front (one ∷ [])
      ∙ ap (λ (t : Bool). stands keyword front || (t || false)) is ∙ either (stands keyword front)
    where
      either : (test : Bool) → (test || true) ≡ true
      either true = refl
      either false = refl

  -- keywords that are one stand in the same
  pub stands-one : (a b : Keyword) (taken : List (Taken V)) → same a b ≡ true → stands a taken ≡ stands b taken
  stands-one a b [] is = refl
  stands-one a b (one ∷ taken) is =
      ap (λ (t : Bool). t || stands a taken)
      (same-sym one.keyword a ∙ same-through a b one.keyword is ∙ same-sym b one.keyword)
      ∙ ap (λ (t : Bool). same one.keyword b || t) (stands-one a b taken is)

module _ {K : Type 0} where
  -- whether a row that is there counts many
  abbrev many_if : Option (Row K) → Bool
  many_if None = false
  many_if (Some row) = is_many row.count

module _ {S K V X : Type 0} (tables : Tables S K V X) (clear : AreClear tables) where
  -- the item that begins a section inside this one stands
  abbrev pub HasEntered : S → List (Taken V) → Type 0
  HasEntered section taken =
      (inside : S) → (tables.shape section).inner ≡ Some inside → stands (opener tables inside) taken ≡ true

  pub entered_more : (section : S) (front back : List (Taken V)) → HasEntered section front
      → HasEntered section (front ++ back)
  entered_more section front back entered inside e = stands_more (opener tables inside) front back (entered inside e)

  -- the keyword of an item is the opener of what it begins
  word_inside : (across : X) (section inside : S) (item : Item) (one : Taken V)
      (said : IsItemOf tables across section item one) → inner tables section one.keyword ≡ Some inside
      → same (opener tables inside) said.keyword ≡ true
  word_inside across section inside item one said begins =
      (opens_inside tables clear said.keyword ((tables.shape section).inner) inside
      (word_begins tables clear across section item one said ∙ begins)).1

  -- it stands not before it
  pub entrance_new : (across : X) (section inside : S) (before : List (Taken V)) (item : Item) (one : Taken V)
      → IsAccepted tables across section before item one → inner tables section one.keyword ≡ Some inside
      → stands (opener tables inside) before ≡ false
  entrance_new across section inside before item one accepted begins =
      let said = accepted.taken in
      let found = opens_inside tables clear one.keyword ((tables.shape section).inner) inside begins in
      let entrance = entrance_of tables clear section inside found.0 in
      let word = word_inside across section inside item one said begins in
      let rows : Some said.row ≡ Some entrance.row =
      sym said.has_row ∙ sym (row_of-one (tables.rows section) (opener tables inside) said.keyword word)
      ∙ entrance.has_row in
      let few : is_many said.row.count ≡ false = ap many_if rows ∙ entrance.few in
      let row_opens : same (opener tables inside) said.row.keyword ≡ true =
      ap (λ (k : Keyword). same (opener tables inside) k) (sym (named tables section across item one said)) ∙ found.1 in
      stands-one (opener tables inside) said.row.keyword before row_opens
      ∙ ap (λ (m : Bool). not m && stands said.row.keyword before) (sym few) ∙ accepted.once

  -- an item that begins a section inside this one ends within its limit
  pub entrance_within : (across : X) (section inside : S) (before : List (Taken V)) (item : Item) (one : Taken V)
      → IsAccepted tables across section before item one → inner tables section one.keyword ≡ Some inside
      → beyond_inner tables section before None item (word_of item.keyword) ≡ None
      → EndsWithin ((tables.shape inside).limit) item.place item
  entrance_within across section inside before item one accepted begins near =
      let said = accepted.taken in
      let k = said.keyword in
      let new : stands k before ≡ false =
      sym (stands-one (opener tables inside) k before (word_inside across section inside item one said begins))
      ∙ entrance_new across section inside before item one accepted begins in
      let found : section_inside tables section before (Some k) ≡ Some inside =
      ap (λ (t : Bool). if t then None else inner tables section k) new
      ∙ word_begins tables clear across section item one said ∙ begins in
      within_of ((tables.shape inside).limit) item.place item
      (sym (ap (λ (w : Option Keyword). beyond_inside tables item (section_inside tables section before w)) said.known
      ∙ ap (λ (s : Option S). beyond_inside tables item s) found)
      ∙ near)

module _ {S K V X : Type 0} (tables : Tables S K V X) (length : ℕ) (fault : Option DocFault) where
  -- ---- its last item

  pub leaves_inner : (section : S) (first : Taken V) (taken : List (Taken V)) (around : S) (first_around : Taken V)
      (taken_around : List (Taken V)) (across next : X) (item : Item) (items : List Item) (document : Document S V)
      (one : Taken V) → is_keyword ((tables.shape section).last) one.keyword ≡ true
      → Stands tables across section item one next → EndsWithin ((tables.shape section).limit) first.place item
      → RowsStand tables section (first ∷ (taken ++ one ∷ []))
      → HasTail tables length fault (NoneInside tables around) around first_around taken_around next items document
      → HasInnerTail tables length fault section first taken around first_around taken_around across (item ∷ items)
      (behind (group section (first ∷ (taken ++ one ∷ []))) document)
  leaves_inner section first taken around first_around taken_around across next item items document one last is near
      counts tail = record {
        items_between = [];
        items_last = item ∷ [];
        more = items;
        come = refl;
        between = [];
        last = one ∷ [];
        before_last = across;
        next = next;
        others = (refl, refl);
        ends = last_has tables section ((tables.shape section).last) across next item one last is;
        near = (near, tt);
        groups = document.groups;
        are = refl;
        counts = counts;
        tail = tail;
      }

  -- ---- its first item

  pub enters_tail : (section inside : S) (first : Taken V) (taken : List (Taken V)) (across next : X) (item : Item)
      (items : List Item) (document : Document S V) (one : Taken V) → Stands tables across section item one next
      → inner tables section one.keyword ≡ Some inside → EndsWithin ((tables.shape inside).limit) item.place item
      → HasInnerTail tables length fault inside one [] section first (taken ++ one ∷ []) next items document
      → HasTail tables length fault (AreOthers tables section) section first taken across (item ∷ items) document
  enters_tail section inside first taken across next item items document one is begins within own =
      let tail = own.tail in
      let items_inside = item ∷ (own.items_between ++ own.items_last) in
      let more = items_of tail.parts ++ tail.left in
      let whole : Group S V = group inside (one ∷ (own.between ++ own.last)) in
      let same_ : (taken ++ one ∷ []) ++ (tail.between ++ tail.last) ≡ taken ++ one ∷ (tail.between ++ tail.last) =
      append_assoc taken (one ∷ []) (tail.between ++ tail.last) in
      let apart : items_inside ++ (tail.items_between ++ tail.items_last)
      ≡ (items_inside ++ tail.items_between) ++ tail.items_last =
      sym (append_assoc items_inside tail.items_between tail.items_last) in
      let placed : one.place ≡ item.place = ap (λ (o : Taken V). o.place) is.said.stands in
      record {
        items_between = items_inside ++ tail.items_between;
        items_last = tail.items_last;
        parts = tail.parts;
        left = tail.left;
        come = ap (λ (l : List Item). item ∷ l) own.come ∙ ap (λ (l : List Item). items_inside ++ l) tail.come
            ∙ sym (append_assoc items_inside (tail.items_between ++ tail.items_last) more)
            ∙ ap (λ (l : List Item). l ++ more) apart;
        inside = whole ∷ [];
        between = one ∷ tail.between;
        last = tail.last;
        before_last = tail.before_last;
        next = tail.next;
        others = inr (record {
          items_before = [];
          items_inside = items_inside;
          items_behind = tail.items_between;
          come = refl;
          before = [];
          one = one;
          behind = tail.between;
          are = refl;
          whole = whole;
          only = refl;
          when_begun = across;
          when_left = own.next;
          first = (refl, refl);
          is = record {
            first_item = item;
            items_between = own.items_between;
            items_last = own.items_last;
            come = refl;
            between = own.between;
            last = own.last;
            are = refl;
            with_first = next;
            before_last = own.before_last;
            begins = is;
            opens = begins;
            others = own.others;
            ends = own.ends;
            counts = own.counts;
            within = (
              within,
              subst (λ (p : ℕ).
                  AllByRecursion (λ (i : Item). EndsWithin ((tables.shape inside).limit) p i)
                  (own.items_between ++ own.items_last)) placed own.near,
            );
          };
          others = tail.others.1;
        });
        ends = tail.ends;
        are = own.are ∙ ap (λ (g : List (Group S V)). whole ∷ g) tail.are
            ∙ ap (λ (g : List (Group S V)). whole ∷ (g
            ++ group section (first ∷ ((taken ++ one ∷ []) ++ (tail.between ++ tail.last))) ∷ sections_of tail.parts))
            tail.others.0
            ∙ ap (λ (l : List (Taken V)). whole ∷ group section (first ∷ l) ∷ sections_of tail.parts) same_;
        counts = subst (λ (l : List (Taken V)). RowsStand tables section (first ∷ l)) same_ tail.counts;
        each = tail.each;
        behind = tail.behind;
        stops = subst (λ (l : List Item).
            EndsBehind tables length fault section l tail.parts tail.left document.used) apart
            (ends_front tables length fault section items_inside (tail.items_between ++ tail.items_last) tail.parts
            tail.left document.used tail.stops);
      }
