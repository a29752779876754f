-- Where a walk stands in each vote.
use Rattle.std.specs.Prelude.{All, ◌≡◌, ◌<◌, ◌≤◌, ℕ, ◌+◌, Bool, false, ◌&&◌, List, [], ◌∷◌, ◌++◌, drop, map, Option}
use Rattle.std.specs.{Prelude.{Some, None, option_map, slice_get, slice_index, if◌then◌else◌}, Option.option_to_list}
use Rattle.std.specs.{Option.option_map_or, List.flat_map}
use Rattle.dir_values.specs.{declared.digest.Fingerprint.Fingerprint, Digests.{same_identity, identity_below}}
use Rattle.dir_values.specs.FlagSets.{as_set}
use Rattle.vote_terms.specs.{Votes.ReadVote, declared.entry.EntryFacts.EntryFacts, Entries.Ascending}
use Rattle.compute_terms.specs.{declared.belong.Belong.Belong, Listings.identities_of}
use Rattle.relay_select.specs.Walks.{Group, place_from}

-- what is left of a vote: the place of the next entry, and the entries from there on
pub record Cursor : Type 0 where
  pub place : ℕ
  pub rest : List EntryFacts

abbrev pub cursor_at : ReadVote → ℕ → Cursor
cursor_at vote place = record { place = place; rest = drop place vote.says.entries }

-- what is left of votes of which each has its place
abbrev pub cursors : List ReadVote → List ℕ → List Cursor
cursors [] places = []
cursors (vote ∷ votes) [] = []
cursors (vote ∷ votes) (place ∷ places) = cursor_at vote place ∷ cursors votes places

-- the identity of the first entry
abbrev pub first_identity : List EntryFacts → Option Fingerprint
first_identity [] = None
first_identity (entry ∷ rest) = Some entry.identity

-- the lesser of an identity and another that may be there
abbrev pub lesser : Option Fingerprint → Option Fingerprint → Option Fingerprint
lesser best None = best
lesser None (Some head) = Some head
lesser (Some best) (Some head) = if identity_below head best then Some head else Some best

-- the least identity that stands first, together with the best so far
abbrev pub least_from : Option Fingerprint → List Cursor → Option Fingerprint
least_from best [] = best
least_from best (c ∷ rest) = least_from (lesser best (first_identity c.rest)) rest

-- whether the next entry has this identity
abbrev pub is_next : List EntryFacts → Fingerprint → Bool
is_next [] rsa = false
is_next (entry ∷ rest) rsa = same_identity entry.identity rsa

-- the next entry of a vote with this number, if it has this identity
abbrev pub next_in : ℕ → Cursor → Fingerprint → List Belong
next_in number c rsa = if is_next c.rest rsa then record { vote = number; entry = c.place } ∷ [] else []

-- the next entries that have this identity
abbrev pub next_from : ℕ → List Cursor → Fingerprint → List Belong
next_from number [] rsa = []
next_from number (c ∷ rest) rsa = next_in number c rsa ++ next_from (number + 1) rest rsa

-- what is left behind the next entry, if that has this identity
abbrev pub past : Fingerprint → Cursor → Cursor
past rsa c = if is_next c.rest rsa then record { place = c.place + 1; rest = drop 1 c.rest } else c

-- the places of an identity's entries that are left
abbrev pub left_of : ℕ → List Cursor → Fingerprint → List Belong
left_of number [] rsa = []
left_of number (c ∷ rest) rsa =
    option_to_list (option_map (λ place. record { vote = number; entry = place }) (place_from c.place c.rest rsa))
    ++ left_of (number + 1) rest rsa

abbrev pub group_left : List Cursor → List ℕ → Group
group_left cs bytes = record { identity = record { 0 = bytes }; members = left_of 0 cs (record { 0 = bytes }) }

-- the groups that are left
abbrev pub groups_left : List Cursor → List Group
groups_left cs = map (group_left cs) (as_set (flat_map (λ (c : Cursor). identities_of c.rest) cs))

-- The entries of each vote ascend.
abbrev pub AllAscend : List ReadVote → Type 0
AllAscend votes = All (λ (vote : ReadVote). Ascending vote.says.entries) votes

-- the entries of a vote
abbrev pub entries_in : List ReadVote → ℕ → List EntryFacts
entries_in votes number = option_map_or (λ (vote : ReadVote). vote.says.entries) (slice_get votes number) []

-- the place in a vote behind its next entry, if that has this identity
abbrev pub place_past : List ReadVote → List ℕ → Fingerprint → ℕ → ℕ
place_past votes places rsa number =
    if is_next (drop (slice_index places number) (entries_in votes number)) rsa then slice_index places number + 1
    else slice_index places number

-- the places once those of the votes before this one were set behind their next entries
pub record Taken (votes : List ReadVote) (rsa : Fingerprint) (old new : List ℕ) (number : ℕ) : Type 0 where
  pub before : (k : ℕ) → k < number → slice_index new k ≡ place_past votes old rsa k
  pub behind : (k : ℕ) → number ≤ k → slice_index new k ≡ slice_index old k
