-- Where items end that are written one after the other.
use Rattle.std.proofs.Common.{◌≡◌, ℕ, ◌+◌, ◌≤◌, false, List, [], ◌∷◌, ◌++◌, length, refl, ap, subst, ◌∙◌, arith}
use Rattle.std.{proofs.lemmas.List.{drop_at, length-append}, specs.Prelude.{◌&&◌, map}}
use Rattle.item_terms.specs.{Items.{Contents, Item, contents, items_from, nothing}, Words.begins_dash}
use Rattle.grammar_laws.proofs.ItemsAgain.{items_again}
use Rattle.dirdoc_grammar.{proofs.Places.stand_in_place, specs.{InPlace.EachInPlace, Writing.{AreWritable, IsWritable}}}
use Rattle.dirdoc_grammar.specs.Writing.{NewItem, all_written, in_front, is_open, item_text, items_text, written}
use Rattle.frame_terms.specs.declared.document.Taken.{Taken}
use Rattle.frame_laws.proofs.Entries.{Entry, after_one, all_taken, item_of, taken_at}

module _ {V : Type 0} where
  -- ---- the place after items

  -- the place after items
  abbrev pub after_all : ℕ → List (Entry V) → ℕ
  after_all place [] = place
  after_all place (entry ∷ entries) = after_all (after_one place entry) entries

  -- it is as far on as their text is long
  pub after_all-same : (place : ℕ) (entries : List (Entry V))
      → after_all place entries ≡ place + length (items_text (map item_of entries))
  after_all-same place [] = omega arith
  after_all-same place (entry ∷ entries) =
      let text = item_text (item_of entry) in
      omega (
        arith,
        after_all-same (place + length text) entries,
        length-append text
            (items_text (map item_of entries)),
      )

  -- it is no place before them
  pub after_all-back : (place : ℕ) (entries : List (Entry V)) → place ≤ after_all place entries
  after_all-back place entries = omega (arith, after_all-same place entries)

  -- the place after two lists of items
  pub after_all-append : (place : ℕ) (front back : List (Entry V))
      → after_all place (front ++ back) ≡ after_all (after_all place front) back
  after_all-append place [] back = refl
  after_all-append place (entry ∷ front) back = after_all-append (after_one place entry) front back

  -- what is taken of two lists of items
  pub all_taken-append : (place : ℕ) (front back : List (Entry V))
      → all_taken place (front ++ back) ≡ all_taken place front ++ all_taken (after_all place front) back
  all_taken-append place [] back = refl
  all_taken-append place (entry ∷ front) back =
      ap (λ (l : List (Taken V)). taken_at place entry ∷ l) (all_taken-append (after_one place entry) front back)

  -- the items of two lists, and more after them
  pub both_written : (place : ℕ) (front back : List (Entry V)) (items : List Item)
      → all_written place (map item_of (front ++ back)) ++ items
      ≡ all_written place (map item_of front) ++ (all_written (after_all place front) (map item_of back) ++ items)
  both_written place [] back items = refl
  both_written place (entry ∷ front) back items =
      ap (λ (l : List Item). written place (item_of entry) ∷ l)
      (both_written (after_one place entry) front back items)

-- ---- two lists of items as they are written

pub all_written-append : (place : ℕ) (items others : List NewItem)
    → all_written place (items ++ others)
    ≡ all_written place items ++ all_written (place + length (items_text items)) others
all_written-append place [] others = ap (λ (k : ℕ). all_written k others) (omega arith)
all_written-append place (item ∷ items) others =
    let text = item_text item in
    let next = place + length text in
    let same : next + length (items_text items) ≡ place + length (text ++ items_text items) =
    omega (arith, length-append text (items_text items)) in
    ap (λ (l : List Item). written place item ∷ l)
    (all_written-append next items others ∙ ap (λ (k : ℕ). all_written next items ++ all_written k others) same)

-- items that stand in place, and the others
pub record BothInPlace (bytes : List ℕ) (items others : List Item) : Type 0 where
  pub front : EachInPlace bytes items
  pub back : EachInPlace bytes others

pub both_in_place : (bytes : List ℕ) (items others : List Item) → EachInPlace bytes (items ++ others)
    → BothInPlace bytes items others
both_in_place bytes [] others each = record { front = tt; back = each }
both_in_place bytes (item ∷ items) others each =
    let h = both_in_place bytes items others each.1 in
    record { front = (each.0, h.front); back = h.back }

-- items that may be written, and the others
pub record BothWritable (limit place : ℕ) (items others : List NewItem) : Type 0 where
  pub front : AreWritable limit place items
  pub back : AreWritable limit (place + length (items_text items)) others

pub both_writable : (limit place : ℕ) (items others : List NewItem) → AreWritable limit place (items ++ others)
    → BothWritable limit place items others
both_writable limit place [] others are =
    record { front = tt; back = subst (λ (k : ℕ). AreWritable limit k others) (omega arith) are }
both_writable limit place (item ∷ items) others are =
    let text = item_text item in
    let next = place + length text in
    let h = both_writable limit next items others are.1 in
    let same : next + length (items_text items) ≡ place + length (text ++ items_text items) =
    omega (arith, length-append text (items_text items)) in
    record { front = (are.0, h.front); back = subst (λ (k : ℕ). AreWritable limit k others) same h.back }

-- items of two lists that stand in place
pub part_in_place : (bytes : List ℕ) (place : ℕ) (items others : List NewItem)
    → EachInPlace bytes (all_written place (items ++ others))
    → BothInPlace bytes (all_written place items) (all_written (place + length (items_text items)) others)
part_in_place bytes place items others each =
    both_in_place bytes (all_written place items) (all_written (place + length (items_text items)) others)
    (subst (λ (l : List Item). EachInPlace bytes l) (all_written-append place items others) each)

-- items that may be written from the first place on may be so behind other bytes, within a limit that counts from there
pub moved : (at limit place : ℕ) (items : List NewItem) → AreWritable limit place items
    → AreWritable (at + limit) (at + place) items
moved at limit place [] are = tt
moved at limit place (item ∷ items) are =
    let next = place + length (item_text item) in
    let same : at + next ≡ (at + place) + length (item_text item) = omega arith in
    let first : IsWritable (at + limit) (at + place) item = record {
      keyword = are.0.keyword;
      arguments = are.0.arguments;
      line_fits = are.0.line_fits;
      object = are.0.object;
      within = omega (arith, are.0.within);
    } in
    (first, subst (λ (n : ℕ). AreWritable (at + limit) n items) same (moved at limit next items are.1))

pub written_behind : (at limit : ℕ) (items : List NewItem) → AreWritable limit 0 items → AreWritable (at + limit) at items
written_behind at limit items are =
    let here : at + 0 ≡ at = omega arith in
    subst (λ (n : ℕ). AreWritable (at + limit) n items) here (moved at limit 0 items are)

-- items that were written stand in place in their text, whatever stands before and behind it
pub written_in_place : (front : List ℕ) (limit : ℕ) (items : List NewItem) (rest : List ℕ)
    → AreWritable (length front + limit) (length front) items → (is_open items && begins_dash rest) ≡ false
    → EachInPlace (front ++ (items_text items ++ rest)) (all_written (length front) items)
written_in_place front limit items rest are closed =
    let at = length front in
    let bytes = front ++ (items_text items ++ rest) in
    let after = contents (at + limit) (at + length (items_text items)) nothing rest in
    let read : items_from at limit bytes ≡ in_front (all_written at items) after =
    ap (λ (l : List ℕ). contents (at + limit) at nothing l) (drop_at front (items_text items ++ rest) (length front) refl)
    ∙ items_again (at + limit) at items rest are closed in
    (both_in_place bytes (all_written at items) after.items
    (subst (λ (c : Contents). EachInPlace bytes c.items) read (stand_in_place at limit bytes))).front
