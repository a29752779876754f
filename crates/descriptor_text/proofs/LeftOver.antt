-- What is left to write of a line or of items, one by one.
use Rattle.std.proofs.Common.{◌≡◌, ℕ, suc, ◌+◌, ◌-◌, ◌*◌, ◌<◌, ◌≤◌, List, [], ◌∷◌, ◌++◌, take, drop, map, ap, ◌∙◌, refl}
use Rattle.std.{proofs.{Common.arith, lemmas.{Grind.common_steps, List.drop-drop}}, specs.Prelude.slice_range}
use Rattle.dir_bytes.specs.FieldTexts.{hex_text}
use Rattle.dir_values.specs.{FlagSets.set_text, Lending.after_text, declared.digest.Fingerprint.Fingerprint}
use Rattle.dir_values.proofs.SetTexts.{set_text-cons}
use Rattle.descriptor_text.specs.Lines.{groups_from, groups_text}

-- groups from a place on, each after a space
abbrev pub groups_behind : List ℕ → ℕ → List ℕ
groups_behind bytes i = after_text (map hex_text (groups_from (10 - i) (drop (2 * i) bytes)))

-- one more group at the front
groups_from-next : (count : ℕ) (bytes : List ℕ)
    → groups_from (suc count) bytes ≡ take 2 bytes ∷ groups_from count (drop 2 bytes)
unfolding groups_from
groups_from-next count bytes = refl

-- no group is left
groups_from-none : (bytes : List ℕ) → groups_from 0 bytes ≡ []
unfolding groups_from
groups_from-none bytes = refl

-- two bytes at a place
two_at : (bytes : List ℕ) (i : ℕ) → take 2 (drop (2 * i) bytes) ≡ slice_range bytes (2 * i) (2 * i + 2)
two_at bytes i = grind (arith, common_steps)

-- the bytes behind them
behind_two : (bytes : List ℕ) (i : ℕ) → drop 2 (drop (2 * i) bytes) ≡ drop (2 * (i + 1)) bytes
behind_two bytes i =
    let more : 2 * i + 2 ≡ 2 * (i + 1) = omega arith in
    drop-drop 2 (2 * i) bytes ∙ ap (λ (n : ℕ). drop n bytes) more

-- what is left to write before a group is written
pub one_more_group_behind : (bytes : List ℕ) (i : ℕ) → i < 10
    → groups_behind bytes i ≡ 32 ∷ (hex_text (slice_range bytes (2 * i) (2 * i + 2)) ++ groups_behind bytes (i + 1))
one_more_group_behind bytes i lt =
    let more : 10 - i ≡ suc (10 - (i + 1)) = omega arith in
    ap (λ (n : ℕ). after_text (map hex_text (groups_from n (drop (2 * i) bytes)))) more
    ∙ ap (λ (l : List (List ℕ)). after_text (map hex_text l)) (groups_from-next (10 - (i + 1)) (drop (2 * i) bytes))
    ∙ ap (λ (l : List ℕ). 32 ∷ (hex_text l ++ after_text (map hex_text (groups_from (10 - (i + 1)) (drop 2 (drop (2 * i) bytes)))))) (two_at bytes i)
    ∙ ap (λ (l : List ℕ). 32 ∷ (hex_text (slice_range bytes (2 * i) (2 * i + 2)) ++ after_text (map hex_text (groups_from (10 - (i + 1)) l)))) (behind_two bytes i)

-- the first group, and then each after a space
pub first_group : (identity : Fingerprint)
    → groups_text identity ≡ hex_text (slice_range identity.0 0 2) ++ groups_behind identity.0 1
first_group identity =
    ap (λ (l : List (List ℕ)). set_text (map hex_text l)) (groups_from-next 9 identity.0)
    ∙ set_text-cons (hex_text (take 2 identity.0)) (map hex_text (groups_from 9 (drop 2 identity.0)))

-- nothing is left
pub no_more : (bytes : List ℕ) (i : ℕ) → 10 ≤ i → groups_behind bytes i ≡ []
no_more bytes i all =
    let none : 10 - i ≡ 0 = omega arith in
    ap (λ (n : ℕ). after_text (map hex_text (groups_from n (drop (2 * i) bytes)))) none
    ∙ ap (λ (l : List (List ℕ)). after_text (map hex_text l)) (groups_from-none (drop (2 * i) bytes))
