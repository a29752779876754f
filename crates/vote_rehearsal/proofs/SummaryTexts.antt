-- The text of a summary, and what is told of a consensus, one step after the other.
use Rattle.std.proofs.Common.{◌≡◌, ℕ, List, [], ◌++◌, length, true, false, ap, ap₂, ◌∙◌, append_assoc}
use Rattle.count_terms.specs.{Counts.over, declared.newest.Newest.TheVariants.Method33}
use Rattle.vote_terms.specs.Votes.{ReadVote}
use Rattle.consensus_terms.specs.declared.consensus.Consensus.{Consensus}
use Rattle.compute_terms.specs.Consensuses.{consensus}
use Rattle.vote_rehearsal.specs.{Relays.ascending_relays, Authorities.voters, Casting.held_votes, Summaries.count_lines}
use Rattle.vote_rehearsal.specs.Summaries.{found_in, found_lines, found_of, nothing_found, summary_of}
use Rattle.vote_rehearsal.specs.declared.{authority.Authority.Authority, relay.Relay.Relay, summary.Found.Found}

-- what was appended in two steps
pub joined : (o a b p q : List ℕ) → p ≡ o ++ a → q ≡ p ++ b → q ≡ o ++ (a ++ b)
joined o a b p q first second = second ∙ ap (λ (l : List ℕ). l ++ b) first ∙ append_assoc o a b

-- where there is a consensus
pub found_there : (roster : ℕ) (votes : List ReadVote) (c : Consensus) (found : Found) → over (length votes) roster ≡ true
    → c ≡ consensus Method33 roster votes → found ≡ found_in c → found ≡ found_of roster votes
unfolding found_of
found_there roster votes c found enough its is = rw enough (is ∙ ap found_in its)

-- the whole text
pub whole : (seed relays authorities count held : ℕ) (listed : List Relay) (its_voters : List Authority)
    (votes : List ReadVote) (found : Found) (start one two : List ℕ) → listed ≡ ascending_relays seed authorities relays
    → its_voters ≡ voters seed authorities → votes ≡ held_votes listed its_voters → count ≡ length its_voters
    → held ≡ length votes → found ≡ found_of count votes → start ≡ []
    → one ≡ start ++ count_lines authorities relays held → two ≡ one ++ found_lines found
    → two ≡ summary_of seed relays authorities
whole seed relays authorities count held listed its_voters votes found start one two listed_is voters_are votes_are count_is held_is found_is start_is one_is two_is =
    let all = voters seed authorities in
    let cast = held_votes (ascending_relays seed authorities relays) all in
    let same : votes ≡ cast =
    votes_are ∙ ap₂ (λ (l : List Relay) (v : List Authority). held_votes l v) listed_is voters_are in
    let many : held ≡ length cast = held_is ∙ ap (λ (l : List ReadVote). length l) same in
    let told : found ≡ found_of (length all) cast =
    found_is ∙ ap₂ (λ (n : ℕ) (l : List ReadVote). found_of n l)
    (count_is ∙ ap (λ (l : List Authority). length l) voters_are) same in
    let first : one ≡ count_lines authorities relays (length cast) =
    one_is ∙ ap₂ (λ (s : List ℕ) (n : ℕ). s ++ count_lines authorities relays n) start_is many in
    two_is ∙ ap₂ (λ (l : List ℕ) (f : Found). l ++ found_lines f) first told
