-- How long texts are that are joined, and texts that have a mark.
use Rattle.std.proofs.Common.{◌≡◌, ℕ, ◌+◌, ◌-◌, ◌<◌, ◌≤◌, Bool, true, false, List, [], ◌∷◌, length, get_or, refl, sym}
use Rattle.std.proofs.{Common.{ap, arith, length-append}, lemmas.{Bool.false≢true, List.drop_all}}
use Rattle.std.{proofs.lemmas.List.Sums.split_at_first, specs.Prelude.{◌==◌, ◌||◌, if◌then◌else◌}}
use Rattle.std.specs.List.{join_with_byte, list_any, position_or_len}
use Rattle.item_terms.specs.Words.{ends_or_blank, is_blank, onto_word, words_of}
use Rattle.dir_values.specs.Versions.{behind, front_of, has_mark}

-- ---- texts, each with a byte behind it

-- how many bytes these are
abbrev pub room : List (List ℕ) → ℕ
room [] = 0
room (text ∷ rest) = length text + 1 + room rest

-- with a byte between each two there is one less
pub joined_room : (byte : ℕ) (texts : List (List ℕ)) → length (join_with_byte byte texts) ≡ room texts - 1
joined_room byte [] = refl
joined_room byte (text ∷ []) = omega arith
joined_room byte (text ∷ next ∷ rest) =
    let more = joined_room byte (next ∷ rest) in
    omega (arith, more, length-append text (byte ∷ join_with_byte byte (next ∷ rest)))

-- ---- words

onto_room : (most b : ℕ) (words : List (List ℕ)) → room words ≤ most + 1 → room (onto_word b words) ≤ most + 2
onto_room most b [] few = omega arith
onto_room most b (word ∷ rest) few = omega (arith, few)

-- the words of a text have no more bytes than the text with one behind it, and than the text where no word begins it
record WordsFit (begins : Bool) (words : List (List ℕ)) (n : ℕ) : Type 0 where
  all : room words ≤ n + 1
  later : begins ≡ true → room words ≤ n

words_fit : (text : List ℕ) → WordsFit (ends_or_blank text) (words_of text) (length text)
words_fit [] = record { all = omega arith; later = λ is. omega arith }
words_fit (b ∷ text) = by (is_blank b) (ends_or_blank text) (words_fit text)
  where
    by : (blank ends : Bool) → WordsFit ends (words_of text) (length text)
        → WordsFit blank (if blank then words_of text else if ends then (b ∷ []) ∷ words_of text
        else onto_word b (words_of text)) (length (b ∷ text))
    by true ends fit = let few = fit.all in record { all = omega (arith, few); later = λ is. omega (arith, few) }
    by false true fit =
        let few = fit.later refl in record { all = omega (arith, few); later = λ is. absurd (false≢true is) }
    by false false fit =
        let few = onto_room (length text) b (words_of text) fit.all in
        record { all = omega (arith, few); later = λ is. absurd (false≢true is) }

pub words_room : (text : List ℕ) → room (words_of text) ≤ length text + 1
words_room text = (words_fit text).all

-- ---- a mark in a text

place_within : (p : ℕ → Bool) (text : List ℕ) → list_any p text ≡ true → position_or_len p text < length text
place_within p [] some = absurd (false≢true some)
place_within p (b ∷ text) some = by (p b) refl (place_within p text) some
  where
    by : (t : Bool) → p b ≡ t → (list_any p text ≡ true → position_or_len p text < length text)
        → (t || list_any p text) ≡ true → position_or_len p (b ∷ text) < length (b ∷ text)
    by true is more found = rw is (omega arith)
    by false is more found = let later = more found in rw is (omega (arith, later))

-- both sides of a mark and the mark are the text
pub sides_of : (mark : ℕ) (text : List ℕ) → has_mark mark text ≡ true
    → length (front_of mark text) + 1 + length (behind mark text) ≡ length text
sides_of mark text some =
    let lt = place_within (λ byte. byte == mark) text some in
    let at = get_or text (position_or_len (λ byte. byte == mark) text) 0 in
    let whole = ap (λ (l : List ℕ). length l) (split_at_first (λ byte. byte == mark) text 0 lt) in
    omega (arith, whole, length-append (front_of mark text) (at ∷ behind mark text))

no_place : (p : ℕ → Bool) (text : List ℕ) → list_any p text ≡ false → length text ≤ position_or_len p text
no_place p [] none = omega arith
no_place p (b ∷ text) none = by (p b) refl (no_place p text) none
  where
    by : (t : Bool) → p b ≡ t → (list_any p text ≡ false → length text ≤ position_or_len p text)
        → (t || list_any p text) ≡ false → length (b ∷ text) ≤ position_or_len p (b ∷ text)
    by true is more found = absurd (false≢true (sym found))
    by false is more found = let later = more found in rw is (omega (arith, later))

-- where there is no mark, nothing stands behind one
pub nothing_behind : (mark : ℕ) (text : List ℕ) → has_mark mark text ≡ false → behind mark text ≡ []
nothing_behind mark text none =
    let past = no_place (λ byte. byte == mark) text none in
    drop_all (position_or_len (λ byte. byte == mark) text + 1) text (omega (arith, past))
