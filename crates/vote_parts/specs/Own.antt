-- The own part of a vote (dir-spec, "Vote and consensus status document formats").
use Rattle.std.specs.{Prelude.{◌≡◌, ℕ, ◌+◌, ◌≤◌, List, drop, length, take, Ok}, List.fold}
use Rattle.item_terms.specs.Items.{items_of}
use Rattle.frame_terms.specs.{Documents.{Document, document_of}, declared.document.Group.Group}
use Rattle.frame_values.specs.declared.values.Value.{Value}
use Rattle.vote_frame.specs.{Tables.vote_tables, declared.frame.{VoteSection.VoteSection, VoteValue.VoteValue}}
use Rattle.vote_terms.specs.Votes.{ReadVote, max_vote}
use Rattle.vote_doc.specs.{declared.kept.Kept.Kept, Facts.vote_in, Kept.{kept_with, none_kept}, Reading.vote_from}
use Rattle.vote_doc.specs.Reading.{vote_of}

abbrev pub VoteDocument : Type 0
VoteDocument = Document VoteSection (Value VoteValue)

-- what is kept of a document
abbrev pub says : VoteDocument → Kept
says document =
    fold (λ kept (group : Group VoteSection (Value VoteValue)). kept_with kept group.section group.taken) none_kept document.groups

-- The bytes are a document, all of them, and the vote is what is kept of it in them.
pub record IsOwn (bytes : List ℕ) (vote : ReadVote) : Type 0 where
  pub document : VoteDocument
  pub is : document_of vote_tables (length bytes) (items_of max_vote bytes) ≡ Ok document
  pub used : document.used ≡ length bytes
  pub kept : vote ≡ vote_in bytes (says document)
  pub read : vote_of bytes ≡ Ok (vote, length bytes)

-- A vote that is read of some bytes is all that is read of its own part of them, and it is kept of that part alone.
abbrev pub OwnVotesAreRead : Type 0
OwnVotesAreRead = (bytes : List ℕ) (vote : ReadVote) (end : ℕ) → vote_of bytes ≡ Ok (vote, end)
    → (end ≤ length bytes) × IsOwn (take end bytes) vote

-- A vote that is read at a place is what the bytes from there on begin with, and ends so many bytes further on.
abbrev pub PlacedVotesAreRead : Type 0
PlacedVotesAreRead = (start : ℕ) (bytes : List ℕ) (vote : ReadVote) (after : ℕ) → vote_from start bytes ≡ Ok (vote, after)
    → (end : ℕ) × (vote_of (drop start bytes) ≡ Ok (vote, end)) × (after ≡ start + end)
