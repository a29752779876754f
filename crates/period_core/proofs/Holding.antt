-- The held votes are of members of the roster, each once, and stay so.
use Rattle.std.proofs.Common.{◌≡◌, ◌≤◌, ℕ, Bool, true, false, ◌&&◌, ◌||◌, List, [], ◌∷◌, length, get_or, All, refl, sym}
use Rattle.std.proofs.{Common.{subst, inl, inr, ⊎_elim, bytes_eq}, lemmas.{Bool.false≢true, List.Elements.All-contains}}
use Rattle.std.specs.List.{list_any}
use Rattle.dir_values.specs.{declared.digest.Fingerprint.Fingerprint, Digests.same_identity, Rosters.has_member}
use Rattle.dir_values.proofs.Orders.{apart}
use Rattle.vote_terms.{specs.{Votes.ReadVote, Held.votes_with}, proofs.{Orders.{Below, same_one}, HeldLaw.{In, in_to}}}
use Rattle.vote_terms.proofs.{HeldLaw.{at_index, Ascends, only}, HeldOrder.{to_pairs, from_pairs, placed_ascends}}
use Rattle.period_terms.specs.States.{has_key}
use Rattle.period_core.{specs.Standing.{AreOf, AreHeld}, proofs.Members.few}

-- the roster has the authority of a vote
abbrev IsKnown : List Fingerprint → ReadVote → Type 0
IsKnown roster vote = has_member roster vote.says.identity ≡ true

-- of each of the votes
abbrev AreKnown : List Fingerprint → List ReadVote → Type 0
AreKnown roster votes = (x : ReadVote) → In x votes → IsKnown roster x

known : (roster : List Fingerprint) (votes : List ReadVote) → AreHeld roster votes → AreKnown roster votes
known roster votes a x i = All-contains (IsKnown roster) votes x a.members (in_to votes x i)

all_known : (roster : List Fingerprint) (votes : List ReadVote) → AreKnown roster votes → All (IsKnown roster) votes
all_known roster votes m = λ i d lt. m (get_or votes i d) (at_index votes i d (get_or votes i d) lt refl)

none_of : (v : ReadVote) (ws : List ReadVote) → ((x : ReadVote) → In x ws → Below v.says.identity x.says.identity)
    → list_any (λ (other : ReadVote). same_identity v.says.identity other.says.identity) ws ≡ false
none_of v [] b = refl
none_of v (w ∷ ws) b =
    rw (apart v.says.identity.0 w.says.identity.0 (b w (inl refl))) (none_of v ws (λ x i. b x (inr i)))

held_are : (roster : List Fingerprint) (votes : List ReadVote) → Ascends votes → AreKnown roster votes
    → AreOf (λ (v : ReadVote). v.says.identity) roster votes
held_are roster [] a m = tt
held_are roster (v ∷ vs) a m = (m v (inl refl), none_of v vs a.0, held_are roster vs a.1 (λ x i. m x (inr i)))

-- no more are held than the roster has members
pub few_held : (roster : List Fingerprint) (votes : List ReadVote) → AreHeld roster votes → length votes ≤ length roster
few_held roster votes a =
    few (λ (v : ReadVote). v.says.identity) roster votes
    (held_are roster votes (from_pairs votes a.ascend) (known roster votes a))

-- none is held at first
pub none_held : (roster : List Fingerprint) → AreHeld roster []
none_held roster = record { ascend = to_pairs [] tt; members = all_known roster [] (λ x i. absurd i) }

known_more : (roster : List Fingerprint) (ws : List ReadVote) (v : ReadVote) → IsKnown roster v → AreKnown roster ws
    → AreKnown roster (votes_with ws v)
known_more roster ws v m a x i =
    ⊎_elim (λ (j : In x ws). a x j) (λ (e : x ≡ v). subst (λ (y : ReadVote). IsKnown roster y) (sym e) m)
    (only ws v x i)

-- with one more vote of a member they are so still
pub held_placed : (roster : List Fingerprint) (ws : List ReadVote) (v : ReadVote) → IsKnown roster v → AreHeld roster ws
    → AreHeld roster (votes_with ws v)
held_placed roster ws v m a = record {
  ascend = placed_ascends ws v a.ascend;
  members = all_known roster (votes_with ws v) (known_more roster ws v m (known roster ws a));
}

-- ---- whose key it is

key_by : (b : Bool) (roster : List Fingerprint) (v : ReadVote) (vs : List ReadVote) (authority : Fingerprint)
    (key : List ℕ) → same_identity v.says.identity authority ≡ b → IsKnown roster v
    → ((b && bytes_eq v.says.certificate.signing_key key) || has_key vs authority key) ≡ true
    → (has_key vs authority key ≡ true → has_member roster authority ≡ true) → has_member roster authority ≡ true
key_by true roster v vs authority key e m h more =
    subst (λ (x : Fingerprint). has_member roster x ≡ true) (same_one v.says.identity authority e) m
key_by false roster v vs authority key e m h more = more h

key_known : (roster : List Fingerprint) (votes : List ReadVote) (authority : Fingerprint) (key : List ℕ)
    → AreKnown roster votes → has_key votes authority key ≡ true → has_member roster authority ≡ true
key_known roster [] authority key m h = absurd (false≢true h)
key_known roster (v ∷ vs) authority key m h =
    key_by (same_identity v.says.identity authority) roster v vs authority key refl (m v (inl refl)) h
    (key_known roster vs authority key (λ x i. m x (inr i)))

-- where a held vote has this authority, the roster has it
pub key_of_member : (roster : List Fingerprint) (votes : List ReadVote) (authority : Fingerprint) (key : List ℕ)
    → AreHeld roster votes → has_key votes authority key ≡ true → has_member roster authority ≡ true
key_of_member roster votes authority key a h = key_known roster votes authority key (known roster votes a) h
