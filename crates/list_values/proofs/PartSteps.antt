-- The first part of a text with commas, and its last one.
use Rattle.std.proofs.Common.{◌≡◌, ℕ, suc, ◌+◌, ◌<◌, ◌≤◌, Bool, true, false, cond, not, List, [], ◌∷◌, length, take}
use Rattle.std.{proofs.{Common.{drop, refl, ap, arith}, lemmas.List.Splits.slice_split_first}, specs.List.onto_first}
use Rattle.std.specs.List.{position_or_len}
use Rattle.list_values.specs.Parts.{is_comma, parts_of}

pub first_part : (text : List ℕ) (n : ℕ) → n ≡ position_or_len is_comma text → n < length text
    → parts_of text ≡ take n text ∷ parts_of (drop (n + 1) text)
first_part text n is some = rw is (slice_split_first is_comma text 0 (rw (← is) some))

cut : (t : Bool) (b : ℕ) (text : List ℕ) (n : ℕ) → suc (length text) ≤ cond (not t) (1 + n) 0
    → (length text ≤ n → parts_of text ≡ text ∷ [])
    → cond t ([] ∷ parts_of text) (onto_first b (parts_of text)) ≡ (b ∷ text) ∷ []
cut true b text n none more = absurd (omega (arith, none))
cut false b text n none more = ap (λ (l : List (List ℕ)). onto_first b l) (more (omega (arith, none)))

pub last_part : (text : List ℕ) → length text ≤ position_or_len is_comma text → parts_of text ≡ text ∷ []
last_part [] none = refl
last_part (b ∷ text) none = cut (is_comma b) b text (position_or_len is_comma text) none (last_part text)
