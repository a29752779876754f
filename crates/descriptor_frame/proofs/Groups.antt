-- Groups of hex digits, one after the other.
use Rattle.std.proofs.Common.{◌≡◌, ℕ, suc, ◌+◌, ◌-◌, ◌*◌, ◌<◌, ◌≤◌, List, [], ◌∷◌, ◌++◌, take, length, ap, ◌∙◌, sym}
use Rattle.std.proofs.Common.{refl, arith, append_assoc, append-nil, slice_set, slice_index_or}
use Rattle.std.{proofs.lemmas.Grind.common_steps, specs.Prelude.{Result, Ok, Err}}
use Rattle.frame_values.specs.Arguments.{Argument, others, next}
use Rattle.descriptor_frame.specs.Fields.{group_in, groups_of}

-- bytes that were read before others
abbrev pub groups_behind_bytes : List ℕ → Result (List ℕ) ℕ → Result (List ℕ) ℕ
groups_behind_bytes bytes (Err place) = Err place
groups_behind_bytes bytes (Ok rest) = Ok (bytes ++ rest)

-- what follows from the group in front
abbrev then_groups : ℕ → ℕ → List Argument → Result (List ℕ) ℕ → Result (List ℕ) ℕ
then_groups count item arguments group =
    next group (λ bytes. next (groups_of count item (others arguments)) (λ rest. Ok (bytes ++ rest)))

-- one more group at the front
groups_next : (count item : ℕ) (arguments : List Argument)
    → groups_of (suc count) item arguments ≡ then_groups count item arguments (group_in item arguments)
unfolding groups_of
groups_next count item arguments = refl

-- bytes before bytes
behind_both : (before bytes : List ℕ) (rest : Result (List ℕ) ℕ)
    → groups_behind_bytes before (next rest (λ rest. Ok (bytes ++ rest))) ≡ groups_behind_bytes (before ++ bytes) rest
behind_both before bytes (Err place) = refl
behind_both before bytes (Ok rest) = ap (λ (l : List ℕ). Ok l) (sym (append_assoc before bytes rest))

-- a group that is one
pub one_more_group_read : (count i item : ℕ) (before bytes : List ℕ) (arguments : List Argument) → i < count
    → group_in item arguments ≡ Ok bytes
    → groups_behind_bytes before (groups_of (count - i) item arguments)
    ≡ groups_behind_bytes (before ++ bytes) (groups_of (count - (i + 1)) item (others arguments))
one_more_group_read count i item before bytes arguments lt is =
    let more : count - i ≡ suc (count - (i + 1)) = omega arith in
    ap (λ (n : ℕ). groups_behind_bytes before (groups_of n item arguments)) more
    ∙ ap (groups_behind_bytes before) (groups_next (count - (i + 1)) item arguments)
    ∙ ap (λ (g : Result (List ℕ) ℕ). groups_behind_bytes before (then_groups (count - (i + 1)) item arguments g)) is
    ∙ behind_both before bytes (groups_of (count - (i + 1)) item (others arguments))

-- one that is none
pub no_more : (count i item place : ℕ) (before : List ℕ) (arguments : List Argument) → i < count
    → group_in item arguments ≡ Err place → groups_behind_bytes before (groups_of (count - i) item arguments) ≡ Err place
no_more count i item place before arguments lt is =
    let more : count - i ≡ suc (count - (i + 1)) = omega arith in
    ap (λ (n : ℕ). groups_behind_bytes before (groups_of n item arguments)) more
    ∙ ap (groups_behind_bytes before) (groups_next (count - (i + 1)) item arguments)
    ∙ ap (λ (g : Result (List ℕ) ℕ). groups_behind_bytes before (then_groups (count - (i + 1)) item arguments g)) is

-- the two bytes of a group
pub two_are_all : (bytes : List ℕ) → length bytes ≡ 2 → slice_index_or bytes 0 0 ∷ slice_index_or bytes 1 0 ∷ [] ≡ bytes
two_are_all bytes is = grind (arith, common_steps)

-- two bytes that were set are the last ones before the next
pub two_set : (bytes : List ℕ) (i a b : ℕ) → 2 * i + 1 < length bytes
    → take (2 * (i + 1)) (slice_set (slice_set bytes (2 * i) a) (2 * i + 1) b) ≡ take (2 * i) bytes ++ a ∷ b ∷ []
two_set bytes i a b lt = grind (arith, common_steps)

-- no group is left
pub at_end : (count i item : ℕ) (bytes : List ℕ) (arguments : List Argument) → count ≤ i
    → groups_behind_bytes bytes (groups_of (count - i) item arguments) ≡ Ok bytes
unfolding groups_of
at_end count i item bytes arguments all =
    let none : count - i ≡ 0 = omega arith in
    ap (λ (n : ℕ). groups_behind_bytes bytes (groups_of n item arguments)) none ∙ ap (λ (l : List ℕ). Ok l) (append-nil bytes)

-- no byte is beyond the last one
pub whole : (bytes : List ℕ) (n : ℕ) → length bytes ≤ n → take n bytes ≡ bytes
whole bytes n all = grind (arith, common_steps)
