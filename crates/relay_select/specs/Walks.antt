-- The walk over all votes, one relay after the other.
use Rattle.std.specs.Prelude.{◌≡◌, ℕ, ◌+◌, List, [], ◌∷◌, ◌++◌, map, Option, Some, None, option_map, if◌then◌else◌}
use Rattle.std.specs.Option.{option_to_list}
use Rattle.dir_values.specs.{declared.digest.Fingerprint.Fingerprint, Digests.same_identity}
use Rattle.vote_terms.specs.{Votes.ReadVote, declared.entry.EntryFacts.EntryFacts}
use Rattle.compute_terms.specs.{declared.belong.Belong.Belong, Listings.identities_in}

-- the places of all entries of an RSA identity, in the order of the votes
pub record Group : Type 0 where
  pub identity : Fingerprint
  pub members : List Belong

-- what is left of a walk over so many votes
pub record Walk : Type 0 where
  pub votes : ℕ
  pub left : List Group

-- the place of the entry of an RSA identity among entries of which the first has this place
abbrev pub place_from : ℕ → List EntryFacts → Fingerprint → Option ℕ
place_from place [] rsa = None
place_from place (entry ∷ rest) rsa =
    if same_identity entry.identity rsa then Some place else place_from (place + 1) rest rsa

-- the entry of an RSA identity in the vote with this number
abbrev pub member_in : ℕ → ReadVote → Fingerprint → Option Belong
member_in number vote rsa =
    option_map (λ place. record { vote = number; entry = place }) (place_from 0 vote.says.entries rsa)

-- the entries of an RSA identity in votes of which the first has this number
abbrev pub members_from : ℕ → List ReadVote → Fingerprint → List Belong
members_from number [] rsa = []
members_from number (vote ∷ votes) rsa =
    option_to_list (member_in number vote rsa) ++ members_from (number + 1) votes rsa

abbrev pub group_of : List ReadVote → Fingerprint → Group
group_of votes rsa = record { identity = rsa; members = members_from 0 votes rsa }

-- the groups of all entries, ascending by RSA identity
abbrev pub groups : List ReadVote → List Group
groups votes = map (group_of votes) (identities_in votes)

-- what the next step of a walk gives: the first group that is left, or nothing where none is
abbrev pub Gives : Walk → Option Fingerprint → List Belong → Walk → Type 0
Gives old None members new = (old.left ≡ []) × (new ≡ old) × (members ≡ [])
Gives old (Some rsa) members new =
    (old.left ≡ record { identity = rsa; members = members } ∷ new.left) × (new.votes ≡ old.votes)
