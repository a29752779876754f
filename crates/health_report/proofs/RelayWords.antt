-- Whether a vote lists a relay, by the place of its entry; and the lines of relays.
use Rattle.std.proofs.Common.{◌≡◌, ℕ, ◌+◌, Bool, true, false, List, [], ◌∷◌, ◌++◌, refl, sym, ap, ◌∙◌, append-nil, map}
use Rattle.std.specs.{Prelude.is_some, List.{list_any, flat_map}}
use Rattle.dir_values.specs.{declared.digest.Fingerprint.Fingerprint, Digests.same_identity, FlagSets.as_set}
use Rattle.dir_values.proofs.Flags.{has_flag-as_set}
use Rattle.vote_terms.specs.{declared.entry.EntryFacts.EntryFacts, Votes.ReadVote}
use Rattle.relay_select.specs.Walks.{Group, place_from}
use Rattle.compute_terms.specs.Listings.{identities_in}
use Rattle.health_report.specs.Reports.{all_relays, lines_of}

abbrev is_of : Fingerprint → EntryFacts → Bool
is_of rsa entry = same_identity entry.identity rsa

found_by : (b : Bool) (place : ℕ) (entry : EntryFacts) (rest : List EntryFacts) (rsa : Fingerprint)
    → same_identity entry.identity rsa ≡ b
    → is_some (place_from (place + 1) rest rsa) ≡ list_any (is_of rsa) rest
    → is_some (place_from place (entry ∷ rest) rsa) ≡ list_any (is_of rsa) (entry ∷ rest)
found_by true place entry rest rsa e more = rw e refl
found_by false place entry rest rsa e more = rw e more

-- a place is found exactly where some entry is of the relay
pub found_place : (place : ℕ) (entries : List EntryFacts) (rsa : Fingerprint)
    → is_some (place_from place entries rsa) ≡ list_any (is_of rsa) entries
found_place place [] rsa = refl
found_place place (entry ∷ rest) rsa =
    found_by (same_identity entry.identity rsa) place entry rest rsa refl (found_place (place + 1) rest rsa)

-- a set of identities lists the relays that its list does
pub set_lists : (identities : List (List ℕ)) (votes : List ReadVote) (ids : List Fingerprint)
    → flat_map (lines_of (as_set identities) votes) ids ≡ flat_map (lines_of identities votes) ids
set_lists identities votes [] = refl
set_lists identities votes (x ∷ ids) =
    rw (has_flag-as_set identities x.0, set_lists identities votes ids) refl

-- the lines of all relays, where those are given as a set that a consensus lists
pub all_set : (identities : List (List ℕ)) (votes : List ReadVote)
    → all_relays (as_set identities) votes ≡ all_relays identities votes
unfolding all_relays
all_set identities votes = set_lists identities votes (identities_in votes)

-- the lines of all relays, where the walk has ended
pub relays_done : (listed : List (List ℕ)) (votes : List ReadVote) (left : List Group) (out old : List ℕ) → left ≡ []
    → out ++ flat_map (lines_of listed votes) (map (λ (g : Group). g.identity) left)
    ≡ old ++ flat_map (lines_of listed votes) (identities_in votes)
    → out ≡ old ++ all_relays listed votes
unfolding all_relays
relays_done listed votes left out old none so_far =
    sym (append-nil out)
    ∙ sym (ap (λ (l : List Group). out ++ flat_map (lines_of listed votes) (map (λ (g : Group). g.identity) l)) none)
    ∙ so_far
