-- The flags that a consensus knows.
pub use Rattle.field_votes.specs.Flags.{with_own_flags}
use Rattle.std.specs.{Prelude.{◌≡◌, ℕ, Bool, not, ◌&&◌, ◌||◌, List, [], ◌∷◌, ◌++◌, codes, if◌then◌else◌}, Str.bytes_eq}
use Rattle.std.specs.List.{list_any, flat_map}
use Rattle.dir_values.specs.FlagSets.{as_set, has_flag}
use Rattle.consensus_terms.specs.Methods.{is_34_or_later}
use Rattle.vote_terms.specs.Votes.{ReadVote}

-- the flags that votes list, one vote after the other
abbrev pub listed_flags : List ReadVote → List (List ℕ)
listed_flags votes = flat_map (λ vote. vote.says.known_flags) votes

-- these flags with those that a consensus by this method has of its own: `NoEdConsensus`, and by 32 and 33 `BadExit` where
-- `MiddleOnly` is among them
abbrev pub with_own_by : ℕ → List (List ℕ) → List (List ℕ)
with_own_by method flags = if is_34_or_later method then flags ++ codes "NoEdConsensus" ∷ [] else with_own_flags flags

-- the flags that a consensus knows, ascending, each once
abbrev pub known_flags : ℕ → List ReadVote → List (List ℕ)
known_flags method votes = as_set (with_own_by method (listed_flags votes))

-- whether some vote lists a flag
abbrev pub is_listed : List ReadVote → List ℕ → Bool
is_listed votes flag = list_any (λ vote. has_flag vote.says.known_flags flag) votes

-- A consensus knows a flag exactly where some vote lists it, or it is `NoEdConsensus`, or, by 32 and 33, it is `BadExit`
-- and some vote lists `MiddleOnly`.
abbrev pub KnowsFlags : Type 0
KnowsFlags = (method : ℕ) (votes : List ReadVote) (flag : List ℕ) → has_flag (known_flags method votes) flag
    ≡ (is_listed votes flag || bytes_eq (codes "NoEdConsensus") flag
    || (bytes_eq (codes "BadExit") flag && (not (is_34_or_later method) && is_listed votes (codes "MiddleOnly"))))
