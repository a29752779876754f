-- The vote that bytes begin with, or their first fault (dir-spec, "Vote and consensus status document formats").
use Rattle.std.specs.Prelude.{◌≡◌, ℕ, ◌≤◌, List, drop, length, take, Result, Ok, Err}
use Rattle.item_terms.specs.Items.{items_of}
use Rattle.frame_terms.specs.{declared.fault.ReadRefusal.ReadRefusal, Documents.{document_of, finish}, Refusals.Fails}
use Rattle.vote_terms.specs.Votes.{ReadVote, max_vote}
use Rattle.vote_doc.specs.{declared.kept.Kept.Kept, Kept.{none_kept, kept_with}, Facts.vote_in}
use Rattle.blank_lines.specs.Behind.{behind}
use Rattle.vote_frame.specs.Tables.{vote_tables}

-- what the vote says of which this was kept, in its own part of these bytes
abbrev pub with_facts : List ℕ → Result (Kept × ℕ) ReadRefusal → Result (ReadVote × ℕ) ReadRefusal
with_facts bytes (Ok (kept, end)) = Ok (vote_in (take end bytes) kept, end)
with_facts bytes (Err refusal) = Err refusal

-- what is kept of the vote that the bytes begin with, and the place after it; or the first fault
abbrev pub kept_of : List ℕ → Result (Kept × ℕ) ReadRefusal
kept_of bytes = finish kept_with none_kept (document_of vote_tables (length bytes) (items_of max_vote bytes))

-- the vote that the bytes begin with, and the place after it; or the first fault
abbrev pub vote_of : List ℕ → Result (ReadVote × ℕ) ReadRefusal
vote_of bytes = with_facts bytes (kept_of bytes)

-- the vote that begins at a place of the bytes, and the place after it; or the first fault
abbrev pub vote_from : ℕ → List ℕ → Result (ReadVote × ℕ) ReadRefusal
vote_from start bytes = behind start (vote_of (drop start bytes))

-- what reading keeps: all that is kept of that vote, which is within the bytes; or the first fault, or want of memory
abbrev pub KeepsVote : List ℕ → Result (Kept × ℕ) ReadRefusal → Type 0
KeepsVote bytes (Ok (kept, end)) = (kept_of bytes ≡ Ok (kept, end)) × (end ≤ length bytes)
KeepsVote bytes (Err refusal) = Fails refusal (vote_of bytes)

-- what reading answers: that vote, which is within the bytes; or the first fault, or want of memory
abbrev pub ReadsVote : List ℕ → Result (ReadVote × ℕ) ReadRefusal → Type 0
ReadsVote bytes (Ok (vote, end)) = (vote_of bytes ≡ Ok (vote, end)) × (end ≤ length bytes)
ReadsVote bytes (Err refusal) = Fails refusal (vote_of bytes)
