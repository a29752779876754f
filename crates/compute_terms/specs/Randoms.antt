-- The shared random values of a consensus (dir-spec, "Computing a consensus from a set of votes").
use Rattle.std.specs.Prelude.{◌≡◌, ℕ, ◌≤◌, ◌-◌, ◌*◌, ◌/◌, ◌%◌, nat_eq, nat_le, nat_lt, ℤ, pos, negsuc, Bool, true}
use Rattle.std.specs.Prelude.{false, ◌&&◌, List, length, count_by, codes, Option, Some, None, if◌then◌else◌}
use Rattle.std.specs.List.{filter_map, find}
use Rattle.count_terms.specs.Counts.{over}
use Rattle.consensus_terms.specs.Methods.{is_34_or_later}
use Rattle.list_values.specs.{declared.named.Named.Named, Maps.value_at}
use Rattle.value_groups.specs.{Values.same_random, declared.line.RandomLine.{RandomLine, TheVariants.Previous}}
use Rattle.value_groups.specs.declared.{line.RandomLine.TheVariants.Current, value.SharedRandom.SharedRandom}
use Rattle.vote_terms.specs.Votes.{ReadVote}

-- what a vote says on a line
abbrev pub random_of : RandomLine → ReadVote → Option SharedRandom
random_of Previous vote = vote.says.random_previous
random_of Current vote = vote.says.random_current

-- whether this is a shared random value, with this count
abbrev pub is_random : SharedRandom → Option SharedRandom → Bool
is_random random None = false
is_random random (Some other) = same_random random other

-- how many votes have a shared random value on a line, with this count
abbrev pub votes_for : RandomLine → List ReadVote → SharedRandom → ℕ
votes_for line votes random = count_by (λ (vote : ReadVote). is_random random (random_of line vote)) votes

-- whether the consensus of these times is the first of a run of the protocol, which has 24 rounds
abbrev pub begins_run : ℕ → ℕ → Bool
begins_run valid_after fresh_until =
    nat_lt valid_after fresh_until && nat_eq (valid_after / (fresh_until - valid_after) % 24) 0

-- a number, and 0 in place of a lesser one
abbrev pub at_least_zero : ℤ → ℕ
at_least_zero (pos n) = n
at_least_zero (negsuc _) = 0

-- how many votes must agree on a new value: so many as this param says, or else two thirds of the roster
abbrev pub agreements_by : ℕ → Option ℤ → ℕ
agreements_by roster None = 2 * roster / 3
agreements_by roster (Some count) = at_least_zero count

-- how many votes must have a value at least, besides more than half of the roster: from 34 on a new one wants more of them
abbrev pub least_agreements : ℕ → ℕ → List (Named ℤ) → ℕ → ℕ → ℕ
least_agreements method roster params valid_after fresh_until =
    if is_34_or_later method && begins_run valid_after fresh_until
    then agreements_by roster (value_at params (codes "AuthDirNumSRVAgreements")) else 0

-- whether votes of more than half of the roster have it, and at least so many
abbrev pub is_agreed : RandomLine → ℕ → ℕ → List ReadVote → SharedRandom → Bool
is_agreed line roster least votes random =
    over (votes_for line votes random) roster && nat_le least (votes_for line votes random)

-- what the consensus says on a line: the value that so many votes have on it, if there is one
abbrev pub agreed_random : RandomLine → ℕ → ℕ → List ReadVote → Option SharedRandom
agreed_random line roster least votes = find (is_agreed line roster least votes) (filter_map (random_of line) votes)

-- No two values are agreed on a line, where there are no more votes than the roster has authorities.
abbrev pub RandomsAreAlone : Type 0
RandomsAreAlone = (line : RandomLine) (roster least : ℕ) (votes : List ReadVote) (a b : SharedRandom)
    → length votes ≤ roster
    → is_agreed line roster least votes a ≡ true → is_agreed line roster least votes b ≡ true → a ≡ b

-- So the consensus says a value on a line exactly where it is agreed on there.
abbrev pub AgreedRandomsAreListed : Type 0
AgreedRandomsAreListed = (line : RandomLine) (roster least : ℕ) (votes : List ReadVote) (random : SharedRandom)
    → length votes ≤ roster
    → (is_agreed line roster least votes random ≡ true → agreed_random line roster least votes ≡ Some random)
    × (agreed_random line roster least votes ≡ Some random → is_agreed line roster least votes random ≡ true)
