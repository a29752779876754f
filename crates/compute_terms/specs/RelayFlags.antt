-- The flags of a relay (dir-spec, "Computing a consensus from a set of votes").
pub use Rattle.field_votes.specs.Flags.{suits_middle, middle_flags}
use Rattle.std.specs.Prelude.{ℕ, Bool, true, false, not, ◌&&◌, List, count_by, filter, codes, if◌then◌else◌}
use Rattle.std.specs.Str.{bytes_eq}
use Rattle.dir_values.specs.FlagSets.{has_flag, as_set}
use Rattle.vote_terms.specs.Votes.{ReadVote}
use Rattle.count_terms.specs.Counts.{over}
use Rattle.consensus_terms.specs.Methods.{is_34_or_later}
use Rattle.compute_terms.specs.{declared.identity.EdPart.EdPart, Flags.known_flags, Listings.Listing}
use Rattle.compute_terms.specs.declared.identity.EdPart.TheVariants as part

-- whether a vote knows a flag
abbrev pub knows : List ℕ → ReadVote → Bool
knows flag vote = has_flag vote.says.known_flags flag

-- how many votes know a flag
abbrev pub knowing_count : List ReadVote → List ℕ → ℕ
knowing_count votes flag = count_by (knows flag) votes

-- whether a vote knows a flag and sets it in its entry
abbrev pub counts_for : List ℕ → Listing → Bool
counts_for flag listing = knows flag listing.vote && has_flag listing.entry.flags flag

-- how many of the votes that know a flag set it in one of these entries
abbrev pub setting_count : List Listing → List ℕ → ℕ
setting_count members flag = count_by (counts_for flag) members

-- whether an RSA identity stands alone
abbrev pub is_bare : EdPart → Bool
is_bare (part.Key key) = false
is_bare part.NoKey = false
is_bare part.Bare = true

-- whether a flag is set: by more than half of the votes that know it; but `NoEdConsensus` on bare identities, and on
-- no others
abbrev pub is_set : List ReadVote → EdPart → List Listing → List ℕ → Bool
is_set votes ed members flag =
    if bytes_eq flag (codes "NoEdConsensus") then is_bare ed
    else over (setting_count members flag) (knowing_count votes flag)

-- the flags that are set
abbrev pub set_flags : ℕ → List ReadVote → EdPart → List Listing → List (List ℕ)
set_flags method votes ed members = as_set (filter (is_set votes ed members) (known_flags method votes))

-- the flags of a relay that may stand only in the middle of a path, in a consensus that knows these: with `BadExit`, but from
-- 34 on only where that is known
abbrev pub flags_in_middle : ℕ → List (List ℕ) → List (List ℕ) → List (List ℕ)
flags_in_middle method known flags =
    if is_34_or_later method && not (has_flag known (codes "BadExit")) then as_set (filter suits_middle flags)
    else middle_flags flags

-- the flags as such a consensus lists them: those of a relay with `MiddleOnly` are of one that may stand only in the middle
abbrev pub adjusted_flags : ℕ → List (List ℕ) → List (List ℕ) → List (List ℕ)
adjusted_flags method known flags =
    if has_flag flags (codes "MiddleOnly") then flags_in_middle method known flags else flags

-- the flags by this method of an identity with this part, to which these listings belong
abbrev pub router_flags : ℕ → List ReadVote → EdPart → List Listing → List (List ℕ)
router_flags method votes ed members = adjusted_flags method (known_flags method votes) (set_flags method votes ed members)

-- whether a relay with these flags is running and valid, and so is listed
abbrev pub is_running_and_valid : List (List ℕ) → Bool
is_running_and_valid flags = has_flag flags (codes "Running") && has_flag flags (codes "Valid")
