-- The identities that a consensus includes (dir-spec, "Computing a consensus from a set of votes").
use Rattle.std.specs.Prelude.{◌≡◌, ◌≤◌, ℕ, Bool, true, false, List, length, map, count_by, Option, Some, None}
use Rattle.std.specs.{Prelude.{option_map, if◌then◌else◌}, List.{find, filter_map}, Str.bytes_eq}
use Rattle.dir_values.specs.declared.digest.Fingerprint.{Fingerprint}
use Rattle.relay_entries.specs.declared.said.EdOpinion.{EdOpinion}
use Rattle.relay_entries.specs.declared.said.EdOpinion.TheVariants as said
use Rattle.vote_terms.specs.Votes.{ReadVote}
use Rattle.count_terms.specs.Counts.{over}
use Rattle.compute_terms.specs.{declared.identity.{EdPart.EdPart, Identity.Identity}, Listings.{Listing, listings}}
use Rattle.compute_terms.specs.Listings.{identities_in}
use Rattle.compute_terms.specs.declared.identity.EdPart.TheVariants as part

-- the part of a pair that an `id` line names
abbrev pub part_in : EdOpinion → Option EdPart
part_in (said.Key key) = Some (part.Key key)
part_in said.None = Some part.NoKey
part_in said.Absent = None

-- whether an `id` line names this part
abbrev pub names : EdPart → EdOpinion → Bool
names (part.Key key) (said.Key other) = bytes_eq key other
names (part.Key key) said.None = false
names (part.Key key) said.Absent = false
names part.NoKey (said.Key other) = false
names part.NoKey said.None = true
names part.NoKey said.Absent = false
names part.Bare ed = false

-- what the `id` lines of listings say
abbrev pub eds_of : List Listing → List EdOpinion
eds_of said_by = map (λ (l : Listing). l.entry.ed) said_by

-- whether the pair with this part is included: the votes that list it are more than half of the roster
abbrev pub includes : ℕ → List EdOpinion → EdPart → Bool
includes roster eds ed = over (count_by (names ed) eds) roster

-- the part of the included pair
abbrev pub included_pair : ℕ → List EdOpinion → Option EdPart
included_pair roster eds = find (includes roster eds) (filter_map part_in eds)

-- the part of an RSA identity, where it has no included pair: it is included bare where the votes that list it are
-- more than half
abbrev pub part_or_bare : ℕ → List EdOpinion → Option EdPart → Option EdPart
part_or_bare roster eds (Some ed) = Some ed
part_or_bare roster eds None = if over (length eds) roster then Some part.Bare else None

-- the part with which an RSA identity is included
abbrev pub included_part : ℕ → List EdOpinion → Option EdPart
included_part roster eds = part_or_bare roster eds (included_pair roster eds)

-- whether an entry with this `id` line belongs to an identity with this part
abbrev pub belongs : EdPart → EdOpinion → Bool
belongs (part.Key key) (said.Key other) = bytes_eq key other
belongs (part.Key key) said.None = false
belongs (part.Key key) said.Absent = true
belongs part.NoKey (said.Key other) = false
belongs part.NoKey said.None = true
belongs part.NoKey said.Absent = true
belongs part.Bare ed = true

-- an RSA identity with its part, where it is included
abbrev pub included_identity : ℕ → List ReadVote → Fingerprint → Option Identity
included_identity roster votes rsa =
    option_map (λ ed. record { rsa = rsa; ed = ed }) (included_part roster (eds_of (listings votes rsa)))

-- the included identities, ascending by RSA identity
abbrev pub included_identities : ℕ → List ReadVote → List Identity
included_identities roster votes = filter_map (included_identity roster votes) (identities_in votes)

-- Of one RSA identity at most one pair is included, where no more votes list it than the roster has authorities.
abbrev pub PairsAreAlone : Type 0
PairsAreAlone = (roster : ℕ) (eds : List EdOpinion) (a b : EdPart) → length eds ≤ roster
    → includes roster eds a ≡ true → includes roster eds b ≡ true → a ≡ b
