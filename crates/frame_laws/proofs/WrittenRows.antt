-- The text of items that are written row by row, and where it ends.
use Rattle.std.proofs.Common.{◌≡◌, ℕ, ◌+◌, ◌-◌, false, List, [], ◌∷◌, ◌++◌, length, take, drop, refl, ap, subst, ◌∙◌}
use Rattle.std.{proofs.Common.arith, specs.Prelude.{◌&&◌, map, slice_range}}
use Rattle.item_terms.specs.Words.{begins_dash}
use Rattle.dirdoc_grammar.specs.Writing.{AreWritable, is_open, items_text, lacks_object}
use Rattle.frame_laws.proofs.{Entries.{Entry, item_of}, Places.{after_all, after_all-same, written_behind}}
use Rattle.frame_laws.proofs.{Places.written_in_place, ReadRows.Stand}

module _ {V : Type 0} where
  -- the text of items
  abbrev pub text_of_entries : List (Entry V) → List ℕ
  text_of_entries entries = items_text (map item_of entries)

  -- whether an object may follow items is whether it may follow the last of them
  is_open-last : (entries : List (Entry V)) (last : Entry V)
      → is_open (map item_of (entries ++ last ∷ [])) ≡ lacks_object last.object
  is_open-last [] last = refl
  is_open-last (entry ∷ []) last = refl
  is_open-last (entry ∷ next ∷ entries) last = is_open-last (next ∷ entries) last

  -- where the last item has an object none may follow
  pub is_closed : (entries : List (Entry V)) (last : Entry V) (rest : List ℕ) → lacks_object last.object ≡ false
      → (is_open (map item_of (entries ++ last ∷ [])) && begins_dash rest) ≡ false
  is_closed entries last rest has = ap (λ t. t && begins_dash rest) (is_open-last entries last ∙ has)

  -- items that were written stand in their text, whatever stands before and behind it
  pub stand_behind : (front : List ℕ) (limit : ℕ) (entries : List (Entry V)) (rest : List ℕ)
      → AreWritable limit 0 (map item_of entries)
      → (is_open (map item_of entries) && begins_dash rest) ≡ false
      → Stand (length front + limit) (front ++ (text_of_entries entries ++ rest)) (length front) entries
  stand_behind front limit entries rest may closed =
      let there = written_behind (length front) limit (map item_of entries) may in
      record { writable = there; in_place = written_in_place front limit (map item_of entries) rest there closed }

  pub stand_written : (limit : ℕ) (entries : List (Entry V)) (rest : List ℕ)
      → AreWritable limit 0 (map item_of entries)
      → (is_open (map item_of entries) && begins_dash rest) ≡ false
      → Stand limit (text_of_entries entries ++ rest) 0 entries
  stand_written limit entries rest may closed =
      let all : 0 + limit ≡ limit = omega arith in
      subst (λ (n : ℕ). Stand n (text_of_entries entries ++ rest) 0 entries) all
      (stand_behind [] limit entries rest may closed)

  -- they end where it ends
  pub ends_behind : (at : ℕ) (entries : List (Entry V)) → after_all at entries ≡ at + length (text_of_entries entries)
  ends_behind at entries = after_all-same at entries

  pub ends_with_text : (entries : List (Entry V)) → after_all 0 entries ≡ length (text_of_entries entries)
  ends_with_text entries = omega (arith, after_all-same 0 entries)

-- a text from one place to another is what stands at the first, where it is so long
pub from_place : (bytes : List ℕ) (begin end place : ℕ) (text : List ℕ) → begin ≡ place → end ≡ place + length text
    → take (length text) (drop place bytes) ≡ text → slice_range bytes begin end ≡ text
from_place bytes begin end place text first last there =
    let count : end - begin ≡ length text = omega (arith, first, last) in
    ap (λ (n : ℕ). take n (drop begin bytes)) count ∙ ap (λ (n : ℕ). take (length text) (drop n bytes)) first ∙ there
