-- The text of a set of flags, flag by flag.
use Rattle.std.proofs.Common.{◌≡◌, ℕ, suc, ◌+◌, ◌<◌, List, [], ◌∷◌, ◌++◌, length, get_or, drop, sym, ap, ◌∙◌, arith}
use Rattle.std.proofs.{Common.{length-append, drop-cons}, lemmas.List.append-nil}
use Rattle.dir_values.specs.{FlagSets.set_text, Lending.after_text}

-- the first flag, and then each after a space
pub set_text-cons : (first : List ℕ) (rest : List (List ℕ)) → set_text (first ∷ rest) ≡ first ++ after_text rest
set_text-cons first [] = sym (append-nil first)
set_text-cons first (next ∷ rest) = ap (λ (l : List ℕ). first ++ 32 ∷ l) (set_text-cons next rest)

-- what is left to write before a flag is written
pub after_text-drop : (rest : List (List ℕ)) (i : ℕ) (flag : List ℕ) → i < length rest → flag ≡ get_or rest i flag → after_text (drop i rest) ≡ 32 ∷ (flag ++ after_text (drop (i + 1) rest))
after_text-drop rest i flag lt is =
    let there : drop i rest ≡ get_or rest i flag ∷ drop (suc i) rest = drop-cons rest i flag lt in
    let one : suc i ≡ i + 1 = omega arith in
    ap after_text there ∙ ap (λ (l : List ℕ). 32 ∷ (l ++ after_text (drop (suc i) rest))) (sym is)
    ∙ ap (λ (n : ℕ). 32 ∷ (flag ++ after_text (drop n rest))) one

-- how much is left to write
pub length-after_text : (rest : List (List ℕ)) (i : ℕ) (flag : List ℕ) → i < length rest → flag ≡ get_or rest i flag → length (after_text (drop i rest)) ≡ 1 + length flag + length (after_text (drop (i + 1) rest))
length-after_text rest i flag lt is =
    ap (λ (l : List ℕ). length l) (after_text-drop rest i flag lt is) ∙ omega (arith, length-append flag (after_text (drop (i + 1) rest)))
