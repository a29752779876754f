-- What is read of an authority (dir-spec, "Directory URLs").
use Rattle.std.specs.{Prelude.{ℕ, List, Option, option_map}, List.find, Str.bytes_eq}
use Rattle.dir_values.specs.declared.digest.Digest1.{Digest1}
use Rattle.vote_terms.specs.Votes.{ReadVote, vote_digest}
use Rattle.consensus_terms.specs.declared.flavour.Flavour.{Flavour, TheVariants.{Ns, Microdesc}}
use Rattle.period_terms.specs.{declared.{state.State.State, name.Name.Name}, States.{vote_of, signed_text}}
use Rattle.period_terms.specs.declared.name.Name.TheVariants as names

-- the text of a flavour that was published last
abbrev pub current_of : Flavour → State → Option (List ℕ)
current_of Ns state = state.ns_current
current_of Microdesc state = state.micro_current

-- the held vote whose signed part has this SHA-1, of several that of the first authority
abbrev pub vote_named : List ReadVote → Digest1 → Option ReadVote
vote_named votes digest = find (λ vote. bytes_eq (vote_digest vote).0 digest.0) votes

-- the text of a vote
abbrev pub vote_text : Option ReadVote → Option (List ℕ)
vote_text vote = option_map (λ (vote : ReadVote). vote.whole) vote

-- the document of a name
abbrev pub document_of : State → Name → Option (List ℕ)
document_of state (names.Vote authority) = vote_text (vote_of state.votes authority)
document_of state (names.VoteByDigest digest) = vote_text (vote_named state.votes digest)
document_of state (names.Current flavour) = current_of flavour state

-- the consensus of a flavour with the signatures that are held, where there are texts
abbrev pub next_consensus_of : Flavour → State → Option (List ℕ)
next_consensus_of flavour state = option_map (signed_text flavour state) state.computed
