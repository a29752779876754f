-- What is computed of votes that can be read can be read (dir-spec, "Computing a consensus from a set of votes").
use Rattle.std.specs.Prelude.{◌≡◌, ℕ, ◌≤◌, true, List, length, All, IfSome, Ok}
use Rattle.dir_bytes.specs.Causes.{last_moment}
use Rattle.dir_values.specs.FlagSets.{is_name}
use Rattle.dirdoc_grammar.specs.Writing.{AreWritable}
use Rattle.group_laws.specs.LineAgain.{IsRandomInRange, IsSourceInRange}
use Rattle.vote_terms.specs.{Votes.ReadVote, declared.facts.VoteFacts.VoteFacts}
use Rattle.vote_laws.specs.Again as vote_laws
use Rattle.consensus_terms.specs.{Signed.signed, Texts.unsigned, declared.consensus.SignedConsensus.SignedConsensus}
use Rattle.consensus_terms.specs.declared.{flavour.Flavour.Flavour, signature.SignatureLine.SignatureLine}
use Rattle.consensus_doc.specs.Reading.{consensus_of, max_consensus}
use Rattle.consensus_laws.specs.Again.{AreFactsInRange, IsSignatureInRange, as_read, with_signatures}
use Rattle.consensus_laws.specs.Items.{consensus_items}
use Rattle.compute_terms.specs.Consensuses.{consensus}
use Rattle.count_terms.specs.declared.newest.Newest.{Newest}

-- ---- votes

-- The vote says what can be read, where a consensus takes something of it: each number, text and list is one that an item
-- may have. Of its methods, its certificate, its signature and its size nothing is asked, nor that its flags and its entries
-- ascend, nor how many there are.
pub record IsVoteInRange (facts : VoteFacts) : Type 0 where
  pub valid_after : facts.valid_after ≤ last_moment
  pub fresh_until : facts.fresh_until ≤ last_moment
  pub valid_until : facts.valid_until ≤ last_moment
  pub vote_seconds : facts.vote_seconds ≤ 4294967295
  pub dist_seconds : facts.dist_seconds ≤ 4294967295
  pub known_flags : All (λ flag. is_name flag ≡ true) facts.known_flags
  pub lists : vote_laws.AreListsInRange facts.lists
  pub source : IsSourceInRange facts.nickname facts.identity facts.address facts.ip facts.dir_port facts.or_port
  pub random_previous : IfSome facts.random_previous IsRandomInRange
  pub random_current : IfSome facts.random_current IsRandomInRange
  pub entries : All vote_laws.IsEntryInRange facts.entries

-- each vote does
abbrev pub AreVotesInRange : List ReadVote → Type 0
AreVotesInRange votes = All (λ (vote : ReadVote). IsVoteInRange vote.says) votes

-- A vote that can be written and read again does.
abbrev pub ReadableVotesAreInRange : Type 0
ReadableVotesAreInRange = (facts : VoteFacts) → vote_laws.IsInRange facts → IsVoteInRange facts

-- ---- the consensus

-- What is computed of such votes, in whatever order, for a roster of any size and whichever the newest method that is
-- known, says what can be read in either flavour.
abbrev pub ComputedFactsAreInRange : Type 0
ComputedFactsAreInRange =
    (flavour : Flavour) (newest : Newest) (roster : ℕ) (votes : List ReadVote) → AreVotesInRange votes
    → AreFactsInRange flavour (consensus newest roster votes).facts

-- the consensus that is computed of votes, in a flavour, with signatures
abbrev pub signed_consensus : Flavour → Newest → ℕ → List ReadVote → List SignatureLine → SignedConsensus
signed_consensus flavour newest roster votes lines = with_signatures flavour (consensus newest roster votes) lines

-- its text
abbrev pub computed_text : Flavour → Newest → ℕ → List ReadVote → List SignatureLine → List ℕ
computed_text flavour newest roster votes lines = signed (unsigned flavour (consensus newest roster votes)) lines

-- Where its items may be written, it is read again as that consensus, as the flavour has it, and ends with the input.
abbrev pub ComputedTextsAreReadAgain : Type 0
ComputedTextsAreReadAgain =
    (flavour : Flavour) (newest : Newest) (roster : ℕ) (votes : List ReadVote) (lines : List SignatureLine)
    → AreVotesInRange votes → All IsSignatureInRange lines
    → AreWritable max_consensus 0 (consensus_items (signed_consensus flavour newest roster votes lines))
    → consensus_of (computed_text flavour newest roster votes lines)
    ≡ Ok (
      as_read (signed_consensus flavour newest roster votes lines),
      length (computed_text flavour newest roster votes lines),
    )
