-- A consensus knows the flags that votes list, and its own.
use Rattle.std.proofs.Common.{◌≡◌, ℕ, Bool, true, false, cond, ◌&&◌, ◌||◌, List, [], ◌∷◌, ◌++◌, refl, sym, ap, ◌∙◌}
use Rattle.std.specs.{Prelude.{codes, not, if◌then◌else◌}, Str.bytes_eq}
use Rattle.dir_values.specs.FlagSets.{has_flag}
use Rattle.dir_values.proofs.Flags as flag_sets
use Rattle.consensus_terms.specs.Methods.{is_34_or_later}
use Rattle.vote_terms.specs.Votes.{ReadVote}
use Rattle.compute_terms.specs.Flags.{listed_flags, with_own_flags, with_own_by, is_listed, KnowsFlags}

or_assoc : (a b c : Bool) → ((a || b) || c) ≡ (a || (b || c))
or_assoc true b c = refl
or_assoc false b c = refl

or_false : (a : Bool) → (a || false) ≡ a
or_false true = refl
or_false false = refl

-- a flag among two lists is among one of them
has_either : (xs ys : List (List ℕ)) (flag : List ℕ) → has_flag (xs ++ ys) flag ≡ (has_flag xs flag || has_flag ys flag)
has_either [] ys flag = refl
has_either (x ∷ xs) ys flag = ap (λ (b : Bool). bytes_eq x flag || b) (has_either xs ys flag) ∙ sym (or_assoc (bytes_eq x flag) (has_flag xs flag) (has_flag ys flag))

-- a flag that some vote lists is among those that votes list
has_listed : (votes : List ReadVote) (flag : List ℕ) → has_flag (listed_flags votes) flag ≡ is_listed votes flag
has_listed [] flag = refl
has_listed (vote ∷ votes) flag =
    has_either vote.says.known_flags (listed_flags votes) flag ∙ ap (λ (b : Bool). has_flag vote.says.known_flags flag || b) (has_listed votes flag)

own_by : (middle_only : Bool) (flag : List ℕ) → has_flag (codes "NoEdConsensus" ∷ cond middle_only (codes "BadExit" ∷ []) []) flag
    ≡ (bytes_eq (codes "NoEdConsensus") flag || (bytes_eq (codes "BadExit") flag && middle_only))
own_by true flag = ap (λ (b : Bool). bytes_eq (codes "NoEdConsensus") flag || b) (or_false (bytes_eq (codes "BadExit") flag) ∙ sym (and_true (bytes_eq (codes "BadExit") flag)))
  where
    and_true : (a : Bool) → (a && true) ≡ a
    and_true true = refl
    and_true false = refl
own_by false flag = ap (λ (b : Bool). bytes_eq (codes "NoEdConsensus") flag || b) (sym (and_false (bytes_eq (codes "BadExit") flag)))
  where
    and_false : (a : Bool) → (a && false) ≡ false
    and_false true = refl
    and_false false = refl

-- whether or not `BadExit` is of its own
known_by : (b : Bool) (flags : List (List ℕ)) (flag : List ℕ)
    → has_flag (if b then flags ++ codes "NoEdConsensus" ∷ [] else with_own_flags flags) flag
    ≡ (has_flag flags flag || (bytes_eq (codes "NoEdConsensus") flag
    || (bytes_eq (codes "BadExit") flag && (not b && has_flag flags (codes "MiddleOnly")))))
known_by true flags flag =
    has_either flags (codes "NoEdConsensus" ∷ []) flag ∙ ap (λ (b : Bool). has_flag flags flag || b) (own_by false flag)
known_by false flags flag =
    let middle_only = has_flag flags (codes "MiddleOnly") in
    has_either flags (codes "NoEdConsensus" ∷ cond middle_only (codes "BadExit" ∷ []) []) flag
    ∙ ap (λ (b : Bool). has_flag flags flag || b) (own_by middle_only flag)

pub knows_flags : KnowsFlags
knows_flags method votes flag =
    let listed = listed_flags votes in
    let own : Bool → Bool = λ m. bytes_eq (codes "BadExit") flag && (not (is_34_or_later method) && m) in
    flag_sets.has_flag-as_set (with_own_by method listed) flag
    ∙ known_by (is_34_or_later method) listed flag
    ∙ ap (λ (b : Bool). b || (bytes_eq (codes "NoEdConsensus") flag || own (has_flag listed (codes "MiddleOnly"))))
    (has_listed votes flag)
    ∙ ap (λ (m : Bool). is_listed votes flag || (bytes_eq (codes "NoEdConsensus") flag || own m))
    (has_listed votes (codes "MiddleOnly"))
    ∙ sym (or_assoc (is_listed votes flag) (bytes_eq (codes "NoEdConsensus") flag) (own (is_listed votes (codes "MiddleOnly"))))
