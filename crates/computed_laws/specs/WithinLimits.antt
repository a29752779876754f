-- What is computed of votes that can be read may be written, but for limits, and within these it is read again (dir-spec,
-- "Computing a consensus from a set of votes").
use Rattle.std.specs.Prelude.{◌≡◌, ℕ, List, length, All, IfSome, Ok}
use Rattle.base64.specs.GeneralPurpose.{IsBytes}
use Rattle.dirdoc_grammar.specs.Writing.{IsLineRest}
use Rattle.grammar_laws.specs.Written.{AreWithinLimits, IsItem}
use Rattle.vote_terms.specs.{Votes.ReadVote, declared.{entry.EntryFacts.EntryFacts, facts.VoteFacts.VoteFacts}}
use Rattle.vote_laws.specs.Again as vote_laws
use Rattle.consensus_terms.specs.declared.{flavour.Flavour.Flavour, signature.SignatureLine.SignatureLine}
use Rattle.consensus_doc.specs.Reading.{consensus_of, max_consensus}
use Rattle.consensus_laws.specs.{Again.{IsSignatureInRange, as_read}, Items.consensus_items}
use Rattle.count_terms.specs.declared.newest.Newest.{Newest}
use Rattle.computed_laws.specs.Computed.{AreVotesInRange, computed_text, signed_consensus}

-- the texts of an entry that a consensus takes as they stand may be the rests of lines
pub record HasLineTexts (entry : EntryFacts) : Type 0 where
  pub version : IfSome entry.version IsLineRest
  pub protocols : IfSome entry.protocols IsLineRest
  pub policy : IfSome entry.policy IsLineRest

-- so may those of the vote
pub record FillsLines (facts : VoteFacts) : Type 0 where
  pub contact : IfSome facts.contact IsLineRest
  pub entries : All HasLineTexts facts.entries

-- those of each vote
abbrev pub AllFillLines : List ReadVote → Type 0
AllFillLines votes = All (λ (vote : ReadVote). FillsLines vote.says) votes

-- a signature says what can be read, and is bytes
pub record IsSignature (line : SignatureLine) : Type 0 where
  pub says : IsSignatureInRange line
  pub bytes : IsBytes line.signature

-- The texts of a vote that can be written and read again fill lines.
abbrev pub ReadableVotesFillLines : Type 0
ReadableVotesFillLines = (facts : VoteFacts) → vote_laws.IsInRange facts → FillsLines facts

-- Each item of what is computed, with signatures, has the form of an item: a keyword, what may be the rest of a line, and
-- where it has an object, that of words and bytes.
abbrev pub ComputedItemsAreItems : Type 0
ComputedItemsAreItems = (flavour : Flavour) (newest : Newest) (roster : ℕ) (votes : List ReadVote)
    (lines : List SignatureLine)
    → AreVotesInRange votes → AllFillLines votes → All IsSignature lines
    → All IsItem (consensus_items (signed_consensus flavour newest roster votes lines))

-- So within limits it is read again: where no line, no object and not the whole passes its limit, its text is read again
-- as that consensus, as the flavour has it, and ends with the input.
abbrev pub ConsensusesWithinLimitsAreReadAgain : Type 0
ConsensusesWithinLimitsAreReadAgain = (flavour : Flavour) (newest : Newest) (roster : ℕ) (votes : List ReadVote)
    (lines : List SignatureLine)
    → AreVotesInRange votes → AllFillLines votes → All IsSignature lines
    → AreWithinLimits max_consensus 0 (consensus_items (signed_consensus flavour newest roster votes lines))
    → consensus_of (computed_text flavour newest roster votes lines)
    ≡ Ok (
      as_read (signed_consensus flavour newest roster votes lines),
      length (computed_text flavour newest roster votes lines),
    )

-- That is so of votes that can be written and read again.
abbrev pub ConsensusesOfReadableVotesAreReadAgain : Type 0
ConsensusesOfReadableVotesAreReadAgain = (flavour : Flavour) (newest : Newest) (roster : ℕ) (votes : List ReadVote)
    (lines : List SignatureLine)
    → All (λ (vote : ReadVote). vote_laws.IsInRange vote.says) votes → All IsSignature lines
    → AreWithinLimits max_consensus 0 (consensus_items (signed_consensus flavour newest roster votes lines))
    → consensus_of (computed_text flavour newest roster votes lines)
    ≡ Ok (
      as_read (signed_consensus flavour newest roster votes lines),
      length (computed_text flavour newest roster votes lines),
    )
