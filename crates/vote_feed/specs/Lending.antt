-- What the private functions of this crate say.
use Rattle.std.specs.Prelude.{◌≡◌, ℕ, ◌≤◌, List, ◌++◌, length, take, Option, Some, None, option_to_list, Result, Ok}
use Rattle.std.specs.Prelude.{Err}
use Rattle.dirdoc_grammar.specs.declared.cursor.Cursor.{Cursor}
use Rattle.item_feeder.specs.Feeders.{KeepsWithin}
use Rattle.item_terms.specs.Items.{contents, nothing}
use Rattle.frame_terms.specs.declared.{document.Open.Open, fault.ReadRefusal.{ReadRefusal, TheVariants.{Frame, Memory}}}
use Rattle.frame_terms.specs.Documents.{document_of, finish}
use Rattle.frame_values.specs.declared.values.Value.{Value}
use Rattle.vote_feed.specs.declared.{machine.Reached.Reached, blanks.Blank.Blank, fed.Fed.Fed, feeder.State.State}
use Rattle.vote_feed.specs.{declared.intake.Intake.Intake, Blanks.blank_of, SoFar.{SoFar, Waits}, Feeding.EndsSo}
use Rattle.vote_feed.specs.Feeding.{IsFaulty, IsOpen, IsWhole}
use Rattle.vote_feed.specs.declared.machine.Reached.TheVariants as reached
use Rattle.vote_frame.specs.declared.{across.Across.Across, frame.{VoteSection.VoteSection, VoteValue.VoteValue}}
use Rattle.vote_frame.specs.Tables.{vote_tables}
use Rattle.vote_doc.specs.{declared.kept.Kept.Kept, Kept.{kept_with, none_kept}}
use Rattle.vote_terms.specs.Votes.{max_vote}
use Rattle.vote_feed.specs.declared.fed.Fed.TheVariants as fed
use Rattle.vote_feed.specs.declared.feeder.State.TheVariants as state
use Rattle.vote_feed.specs.declared.intake.Intake.TheVariants as intake

-- ---- how far a vote is read

-- so much is read of a vote
abbrev pub VoteSoFar : List ℕ → Cursor → Across → Open VoteSection (Value VoteValue) → Kept → Type 0
VoteSoFar bytes cursor across open_ kept =
    SoFar kept_with none_kept vote_tables max_vote bytes cursor across open_ kept

-- so much is read of a vote, and of the rest nothing is known
abbrev pub VoteWaits : List ℕ → Cursor → Across → Open VoteSection (Value VoteValue) → Kept → Type 0
VoteWaits bytes cursor across open_ kept =
    Waits kept_with none_kept vote_tables max_vote bytes cursor across open_ kept

-- The bytes are a whole vote, of which this is kept: whatever follows, reading keeps this, and ends where they end.
abbrev pub IsKeptOf : List ℕ → Kept → Type 0
IsKeptOf bytes kept = (more : List ℕ)
    → finish kept_with none_kept
    (document_of vote_tables (length (bytes ++ more)) (contents max_vote 0 nothing (bytes ++ more)))
    ≡ Ok (kept, length bytes)

-- What comes of reading on, where nothing was known of so many of the bytes: all is read, and nothing is known yet; or
-- the vote is whole, and no shorter, and this is kept of it; or it is faulty.
abbrev pub Comes : ℕ → List ℕ → Cursor → Across → Open VoteSection (Value VoteValue) → Kept
    → Result Reached ReadRefusal → Type 0
Comes known bytes cursor across open_ kept (Ok reached.All) = VoteWaits bytes cursor across open_ kept
Comes known bytes cursor across open_ kept (Ok (reached.Whole used)) =
    (known ≤ used) × (used ≤ length bytes) × IsKeptOf (take used bytes) kept
Comes known bytes cursor across open_ kept (Err Memory) = Unit {0}
Comes known bytes cursor across open_ kept (Err (Frame fault)) = EndsSo bytes (Err (Frame fault))

-- What comes of taking bytes in behind others of which nothing is known.
abbrev pub TakesIn : List ℕ → List ℕ → List ℕ → Cursor → Across → Open VoteSection (Value VoteValue) → Kept → Intake
    → Type 0
TakesIn old part new cursor across open_ kept intake.All =
    (new ≡ old ++ part) × VoteWaits new cursor across open_ kept × (length new ≤ max_vote)
TakesIn old part new cursor across open_ kept (intake.Whole taken) =
    (taken ≤ length part) × (new ≡ old ++ take taken part) × IsKeptOf new kept
TakesIn old part new cursor across open_ kept (intake.Fault taken fault) =
    (taken ≤ length part) × (new ≡ old ++ take taken part) × EndsSo new (Err (Frame fault))

-- ---- what a feeder keeps

-- the bytes that were taken: those that are kept, and the one beside them
abbrev pub taken_of : List ℕ → Option ℕ → List ℕ
taken_of bytes beside = bytes ++ option_to_list beside

-- the state that a feeder is in after this
abbrev pub state_of : Intake → State
state_of intake.All = state.Going
state_of (intake.Whole taken) = state.Whole
state_of (intake.Fault taken fault) = state.Fault fault

-- what is told of it
abbrev pub fed_of : Intake → Fed
fed_of intake.All = fed.All
fed_of (intake.Whole taken) = fed.Whole taken
fed_of (intake.Fault taken fault) = fed.Fault taken

-- how many of so many bytes were taken
abbrev pub count_of : ℕ → Intake → ℕ
count_of all intake.All = all
count_of all (intake.Whole taken) = taken
count_of all (intake.Fault taken fault) = taken

-- What a feeder knows of the bytes, by its state. Where its reading is to begin anew, no byte stands beside them.
abbrev pub Knows : State → List ℕ → Option ℕ → Cursor → Across → Open VoteSection (Value VoteValue) → Kept → Type 0
Knows state.Going bytes beside cursor across open_ kept =
    (beside ≡ None) × VoteWaits bytes cursor across open_ kept
Knows state.Anew bytes beside cursor across open_ kept = (beside ≡ None) × IsOpen (taken_of bytes beside)
Knows state.Whole bytes beside cursor across open_ kept = IsKeptOf (taken_of bytes beside) kept
Knows (state.Fault fault) bytes beside cursor across open_ kept =
    EndsSo (taken_of bytes beside) (Err (Frame fault))

-- What is known of the vote already, which feeding more tells again: nothing, or that it is whole or faulty.
abbrev pub IsKnown : List ℕ → Option Fed → Type 0
IsKnown bytes None = IsOpen bytes
IsKnown bytes (Some fed.All) = ⊥
IsKnown bytes (Some (fed.Whole taken)) = (taken ≡ 0) × IsWhole bytes
IsKnown bytes (Some (fed.Fault taken)) = (taken ≡ 0) × IsFaulty bytes

-- What a feeder knows of what it keeps: how many bytes, whether they may be blank lines, and how far they are read.
pub record Keeps (bytes : List ℕ) (beside : Option ℕ) (blank : Blank) (now : State) (cursor : Cursor) (across : Across)
    (open_ : Open VoteSection (Value VoteValue)) (kept : Kept) : Type 0 where
  pub within : KeepsWithin max_vote bytes beside
  pub blanks : blank ≡ blank_of (taken_of bytes beside)
  pub knows : Knows now bytes beside cursor across open_ kept
