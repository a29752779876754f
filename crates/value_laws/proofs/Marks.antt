-- Texts with a mark in them: what stands in front of it and behind it, and the parts between several.
use Rattle.std.proofs.Common.{◌≡◌, ℕ, suc, ◌+◌, ◌<◌, ◌≤◌, Bool, true, false, List, [], ◌∷◌, ◌++◌, length, drop, get_or}
use Rattle.std.proofs.{Common.{refl, sym, ap, ◌∙◌, arith, ⊎_elim}, lemmas.Bool.{and_from, and_parts, cases_lt, eq-eqb}}
use Rattle.std.proofs.lemmas.{Bool.{eqb-true, false≢true}, List.{drop_all, take_all, take_at, Elements.All-cons}}
use Rattle.std.proofs.lemmas.List.{Elements.{All-head, All-nil, All-tail}, Folds.list_all-append, Splits.slice_split_at}
use Rattle.std.proofs.lemmas.List.{Splits.slice_split_none, Sums.{passes_at_first, split_at_first}}
use Rattle.std.specs.{Prelude.{◌==◌, ◌||◌, All}, List.{join_with_byte, list_all, list_any, position_or_len}}
use Rattle.item_terms.specs.Bytes.{comma}
use Rattle.dir_values.specs.Versions.{behind, front_of, has_mark}
use Rattle.list_values.specs.Parts.{is_comma, parts_of}

-- what passes one test fails another
pub lacks_if : (p q : ℕ → Bool) → ((b : ℕ) → p b ≡ true → q b ≡ false) → (text : List ℕ) → list_all p text ≡ true
    → All (λ b. q b ≡ false) text
lacks_if p q other [] all = All-nil (λ b. q b ≡ false)
lacks_if p q other (b ∷ text) all =
    let parts = and_parts (p b) (list_all p text) all in
    All-cons (λ b. q b ≡ false) b text (other b parts.0) (lacks_if p q other text parts.1)

-- ---- one mark

module _ (mark : ℕ) where
  abbrev is_mark : ℕ → Bool
  is_mark byte = byte == mark

  -- the mark stands not in a text
  abbrev pub Lacks : List ℕ → Type 0
  Lacks text = All (λ b. is_mark b ≡ false) text

  first_place : (front rest : List ℕ) → Lacks front → position_or_len is_mark (front ++ mark ∷ rest) ≡ length front
  first_place [] rest lacks = rw (eq-eqb mark mark refl) refl
  first_place (b ∷ front) rest lacks =
      let other : is_mark b ≡ false = All-head (λ b. is_mark b ≡ false) b front lacks in
      let later = first_place front rest (All-tail (λ b. is_mark b ≡ false) b front lacks) in
      rw other (omega (arith, later))

  past : (front rest : List ℕ) → drop (length front + 1) (front ++ mark ∷ rest) ≡ rest
  past [] rest = refl
  past (b ∷ front) rest =
      let one : length (b ∷ front) + 1 ≡ suc (length front + 1) = omega arith in
      rw one (past front rest)

  -- what stands in front of the mark
  pub front_again : (front rest : List ℕ) → Lacks front → front_of mark (front ++ mark ∷ rest) ≡ front
  front_again front rest lacks =
      take_at front (mark ∷ rest) (position_or_len is_mark (front ++ mark ∷ rest)) (sym (first_place front rest lacks))

  -- and behind it
  pub behind_again : (front rest : List ℕ) → Lacks front → behind mark (front ++ mark ∷ rest) ≡ rest
  behind_again front rest lacks =
      ap (λ (n : ℕ). drop (n + 1) (front ++ mark ∷ rest)) (first_place front rest lacks) ∙ past front rest

  -- the mark is there
  pub mark_is_there : (front rest : List ℕ) → has_mark mark (front ++ mark ∷ rest) ≡ true
  mark_is_there [] rest = rw (eq-eqb mark mark refl) refl
  mark_is_there (b ∷ front) rest =
      elim (is_mark b) as (λ t. (t || list_any is_mark (front ++ mark ∷ rest)) ≡ true) [
        | true ↦ refl
        | false ↦ mark_is_there front rest
      ]

  no_place : (text : List ℕ) → has_mark mark text ≡ false → length text ≤ position_or_len is_mark text
  no_place [] none = omega arith
  no_place (b ∷ text) none = by (is_mark b) refl (λ other. no_place text other) none
    where
      by : (t : Bool) → is_mark b ≡ t → (list_any is_mark text ≡ false → length text ≤ position_or_len is_mark text)
          → (t || list_any is_mark text) ≡ false → length (b ∷ text) ≤ position_or_len is_mark (b ∷ text)
      by true is more none = absurd (false≢true (sym none))
      by false is more none = let later = more none in rw is (omega (arith, later))

  -- where there is no mark, nothing stands behind one
  pub nothing_behind : (text : List ℕ) → has_mark mark text ≡ false → behind mark text ≡ []
  nothing_behind text none =
      let past_all = no_place text none in
      drop_all (position_or_len is_mark text + 1) text (omega (arith, past_all))

  -- what holds of each byte in front of the first mark, of the mark, and of each byte behind it, holds of all
  pub across : (p : ℕ → Bool) → p mark ≡ true → (text : List ℕ) → list_all p (front_of mark text) ≡ true
      → list_all p (behind mark text) ≡ true → list_all p text ≡ true
  across p its text front back = ⊎_elim there none (cases_lt (position_or_len is_mark text) (length text))
    where
      there : position_or_len is_mark text < length text → list_all p text ≡ true
      there lt =
          let at = get_or text (position_or_len is_mark text) 0 in
          let here : at ≡ mark = eqb-true at mark (passes_at_first is_mark text 0 lt) in
          ap (list_all p) (split_at_first is_mark text 0 lt)
          ∙ list_all-append p (front_of mark text) (at ∷ behind mark text)
          ∙ and_from _ _ front (and_from _ _ (ap p here ∙ its) back)

      none : length text ≤ position_or_len is_mark text → list_all p text ≡ true
      none le = ap (list_all p) (sym (take_all (position_or_len is_mark text) text le)) ∙ front

-- ---- parts between commas

-- no comma stands in a text
abbrev pub LacksComma : List ℕ → Type 0
LacksComma text = All (λ b. is_comma b ≡ false) text

-- texts with commas between them are the parts of what they make
pub parts_again : (first : List ℕ) (rest : List (List ℕ)) → All LacksComma (first ∷ rest)
    → parts_of (join_with_byte comma (first ∷ rest)) ≡ first ∷ rest
parts_again first [] each = slice_split_none is_comma first (All-head LacksComma first [] each)
parts_again first (next ∷ rest) each =
    slice_split_at is_comma first comma (join_with_byte comma (next ∷ rest))
    (All-head LacksComma first (next ∷ rest) each) refl
    ∙ ap (λ (l : List (List ℕ)). first ∷ l) (parts_again next rest (All-tail LacksComma first (next ∷ rest) each))
