-- A vote that was read, and what follows it (dir-spec, "Vote and consensus status document formats").
use Rattle.std.specs.Prelude.{◌≡◌, ℕ, List, [], None, take, Ok}
use Rattle.item_terms.specs.Items.{items_from}
use Rattle.vote_terms.specs.Votes.{ReadVote}
use Rattle.vote_doc.specs.Reading.{vote_of}
use Rattle.vote_feed.specs.Feeding.{IsOpen, IsWhole}

-- The bytes of a vote that was read, up to where it ends, are a whole vote: it ends there whatever follows them.
abbrev pub VotesEnd : Type 0
VotesEnd = (bytes : List ℕ) (vote : ReadVote) (end : ℕ) → vote_of bytes ≡ Ok (vote, end) → IsWhole (take end bytes)

-- Bytes of which nothing is known yet, since it depends on what follows, are no vote.
abbrev pub OpenVotesAreNone : Type 0
OpenVotesAreNone = (bytes : List ℕ) (vote : ReadVote) (end : ℕ) → IsOpen bytes → vote_of bytes ≡ Ok (vote, end) → ⊥

-- Bytes in which no item is found, and no fault, whatever the limit, are blank lines alone; they are no vote.
abbrev pub BlankLinesAreNone : Type 0
BlankLinesAreNone = (limit : ℕ) (bytes : List ℕ) (vote : ReadVote) (end : ℕ)
    → items_from 0 limit bytes ≡ record { items = []; fault = None } → vote_of bytes ≡ Ok (vote, end) → ⊥
