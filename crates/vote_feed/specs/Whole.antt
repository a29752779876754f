-- The bytes of a vote inside an input (dir-spec, "Vote and consensus status document formats").
use Rattle.std.specs.Prelude.{◌≡◌, ℕ, ◌+◌, List, ◌++◌, length, Ok, Err}
use Rattle.frame_terms.specs.declared.fault.{FrameFault.FrameFault, ReadRefusal.TheVariants.Frame}
use Rattle.vote_terms.specs.Votes.{ReadVote}
use Rattle.blank_lines.specs.Behind.{behind, fault_behind}
use Rattle.vote_doc.specs.Reading.{vote_from, vote_of}
use Rattle.vote_feed.specs.Feeding.{IsFaulty, IsWhole}

-- A vote behind other bytes is the one that it is alone, and ends so many bytes further on; and so is its first fault.
abbrev pub VotesMove : Type 0
VotesMove = (before bytes : List ℕ) → vote_from (length before) (before ++ bytes) ≡ behind (length before) (vote_of bytes)

-- Bytes that are a whole vote are that vote in front of others, and it ends where they end.
abbrev pub WholeVotesStay : Type 0
WholeVotesStay = (bytes more : List ℕ) → IsWhole bytes → vote_of (bytes ++ more) ≡ vote_of bytes

-- Bytes that are a whole vote are that vote behind others and in front of others, and it ends where they end.
abbrev pub WholeVotesStand : Type 0
WholeVotesStand = (before bytes more : List ℕ) (vote : ReadVote)
    → IsWhole bytes → vote_of bytes ≡ Ok (vote, length bytes)
    → vote_from (length before) (before ++ (bytes ++ more)) ≡ Ok (vote, length before + length bytes)

-- Bytes that are faulty are refused behind others and in front of others for their fault, which stands so many bytes
-- further on.
abbrev pub FaultyVotesStand : Type 0
FaultyVotesStand = (before bytes more : List ℕ) (fault : FrameFault)
    → IsFaulty bytes → vote_of bytes ≡ Err (Frame fault)
    → vote_from (length before) (before ++ (bytes ++ more)) ≡ Err (Frame (fault_behind (length before) fault))
