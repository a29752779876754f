-- What a rehearsal writes: how many authorities, relays and votes there are, how many relays each flavour of the
-- consensus lists, and the digests of its signed parts.
use Rattle.std.specs.Prelude.{ℕ, List, [], ◌∷◌, ◌++◌, length, count_by, codes, decimal, if◌then◌else◌}
use Rattle.dir_bytes.specs.FieldTexts.{hex_text}
use Rattle.item_terms.specs.Bytes.{line_feed, space}
use Rattle.count_terms.specs.{Counts.over, declared.newest.Newest.TheVariants.Method33}
use Rattle.vote_terms.specs.Votes.{ReadVote}
use Rattle.consensus_terms.specs.{Routers.is_listed, Signed.digests_of, Texts.unsigned}
use Rattle.consensus_terms.specs.declared.{consensus.Consensus.Consensus, flavour.Flavour.TheVariants.{Ns, Microdesc}}
use Rattle.compute_terms.specs.Consensuses.{consensus}
use Rattle.vote_rehearsal.specs.{Relays.ascending_relays, Authorities.voters, Casting.held_votes}
use Rattle.vote_rehearsal.specs.declared.summary.Found.{Found}

-- what is told of a consensus
abbrev pub found_in : Consensus → Found
found_in c = record {
  ns = count_by (is_listed Ns) c.facts.routers;
  microdesc = count_by (is_listed Microdesc) c.facts.routers;
  sha1 = (digests_of (unsigned Ns c)).sha1;
  sha256 = (digests_of (unsigned Microdesc c)).sha256;
}

-- what is told where there is none: no relays, and the digests of an empty text
abbrev pub nothing_found : Found
nothing_found = record { ns = 0; microdesc = 0; sha1 = (digests_of []).sha1; sha256 = (digests_of []).sha256 }

-- what is told of the consensus of held votes, where the roster has so many authorities: there is one where the votes are
-- of more than half of the roster. Method 33 is the newest that a rehearsal knows.
unfoldable pub found_of : ℕ → List ReadVote → Found
found_of roster votes = if over (length votes) roster then found_in (consensus Method33 roster votes) else nothing_found

-- a line with a number
unfoldable pub count_line : List ℕ → ℕ → List ℕ
count_line word count = word ++ space ∷ decimal count ++ line_feed ∷ []

-- a line with bytes as hex digits
unfoldable pub digest_line : List ℕ → List ℕ → List ℕ
digest_line word bytes = word ++ space ∷ hex_text bytes ++ line_feed ∷ []

-- the lines of so many authorities, relays and votes
abbrev pub count_lines : ℕ → ℕ → ℕ → List ℕ
count_lines authorities relays votes =
    count_line (codes "authorities") authorities ++ count_line (codes "relays") relays
    ++ count_line (codes "votes") votes

-- the lines of what is told of a consensus
abbrev pub found_lines : Found → List ℕ
found_lines found =
    count_line (codes "listed-ns") found.ns ++ count_line (codes "listed-microdesc") found.microdesc
    ++ digest_line (codes "ns-sha1") found.sha1.0 ++ digest_line (codes "microdesc-sha256") found.sha256.0

-- the summary of a rehearsal from a seed, of so many relays and authorities
abbrev pub summary_of : ℕ → ℕ → ℕ → List ℕ
summary_of seed relays authorities =
    let its_voters = voters seed authorities in
    let votes = held_votes (ascending_relays seed authorities relays) its_voters in
    count_lines authorities relays (length votes) ++ found_lines (found_of (length its_voters) votes)
