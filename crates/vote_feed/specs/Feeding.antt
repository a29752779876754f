-- A vote whose bytes arrive piece by piece (dir-spec, "Vote and consensus status document formats").
use Rattle.std.specs.{Prelude.{◌≡◌, ◌&&◌, ℕ, ◌≤◌, Bool, List, ◌++◌, length, take, Result, Ok, Err}, List.list_all}
use Rattle.item_terms.specs.{Lines.{Line, lines}, Words.is_blank_line}
use Rattle.frame_terms.specs.declared.fault.{FrameFault.FrameFault, ReadRefusal.{ReadRefusal, TheVariants.Frame}}
use Rattle.vote_terms.specs.Votes.{ReadVote}
use Rattle.vote_doc.specs.Reading.{vote_of}
use Rattle.vote_feed.specs.declared.fed.Fed.{Fed, TheVariants.{All, Whole, Fault}}

-- where a vote ends that was read, or why none was
abbrev pub end_of : Result (ReadVote × ℕ) ReadRefusal → Result ℕ ReadRefusal
end_of (Ok (vote, end)) = Ok end
end_of (Err refusal) = Err refusal

-- Whatever follows these bytes, reading them ends so.
abbrev pub EndsSo : List ℕ → Result ℕ ReadRefusal → Type 0
EndsSo bytes end = (more : List ℕ) → end_of (vote_of (bytes ++ more)) ≡ end

-- The bytes are a whole vote: whatever follows, it ends where they end.
abbrev pub IsWhole : List ℕ → Type 0
IsWhole bytes = EndsSo bytes (Ok (length bytes))

-- The bytes are faulty: whatever follows, they are refused for one and the same fault.
pub record IsFaulty (bytes : List ℕ) : Type 0 where
  pub fault : FrameFault
  pub refused : EndsSo bytes (Err (Frame fault))

-- Nothing is known of the vote yet: neither a fault nor where it ends is the same whatever follows.
abbrev pub IsOpen : List ℕ → Type 0
IsOpen bytes = (end : Result ℕ ReadRefusal) → EndsSo bytes end → ⊥

-- What feeding a piece gives, by the bytes that were taken before and then: all of it was taken, and nothing is known
-- of the vote yet; or the vote is whole, or faulty, with so many of its first bytes.
abbrev pub Feeds : List ℕ → List ℕ → List ℕ → Fed → Type 0
Feeds old piece new All = (new ≡ old ++ piece) × IsOpen new
Feeds old piece new (Whole taken) = (taken ≤ length piece) × (new ≡ old ++ take taken piece) × IsWhole new
Feeds old piece new (Fault taken) = (taken ≤ length piece) × (new ≡ old ++ take taken piece) × IsFaulty new

-- whether bytes are blank lines alone, each with its NL
abbrev pub are_blank_lines : List ℕ → Bool
are_blank_lines bytes = list_all (λ (line : Line). line.ended && is_blank_line line.text) (lines bytes)
