-- The input of the command: votes, one after the other, the line `report-consensus`, and a consensus to the input's end.
use Rattle.std.specs.Prelude.{ℕ, ◌+◌, zero, suc, Bool, ◌&&◌, List, [], ◌∷◌, ◌++◌, length, drop, take, slice_range}
use Rattle.std.specs.Prelude.{Option, Some, None, Result, Ok, Err, codes, option_and_then, unwrap_or, if◌then◌else◌}
use Rattle.std.specs.Str.{bytes_eq}
use Rattle.item_terms.specs.{Items.{Item, items_from, no_limit}, Lines.Line, declared.fault.DocFault.DocFault}
use Rattle.dirdoc_grammar.specs.Reading.{first_line}
use Rattle.blank_lines.specs.{Blanks.after_blanks, Ends.ends_at}
use Rattle.frame_terms.specs.declared.fault.{FrameFault.FrameFault, FrameReason.TheVariants.{Doc, TooMany}}
use Rattle.frame_terms.specs.declared.{fault.ReadRefusal.ReadRefusal, row.Limit.TheVariants.Votes}
use Rattle.frame_terms.specs.Decisions.{first_fault}
use Rattle.frame_terms.specs.declared.fault.ReadRefusal.TheVariants as read
use Rattle.vote_terms.specs.Votes.{ReadVote}
use Rattle.vote_doc.specs.Reading.{vote_from}
use Rattle.vote_frame.specs.Tables.{vote_tables}
use Rattle.daemon_words.specs.declared.stop.Stop.{Stop}
use Rattle.daemon_words.specs.declared.stop.Stop.TheVariants as stop
use Rattle.report_command.specs.declared.{refusal.InputRefusal.InputRefusal, reading.Ahead.Ahead}
use Rattle.report_command.specs.declared.refusal.InputRefusal.TheVariants as input
use Rattle.report_command.specs.declared.reading.Ahead.TheVariants as ahead

-- ---- what comes next

-- the text of the line in front of the consensus
abbrev pub is_line_text : List ℕ → Bool
is_line_text text = bytes_eq text (codes "report-consensus")

-- that line, with its NL
abbrev pub is_line : Line → Bool
is_line line = is_line_text line.text && line.ended

-- how many bytes it has
abbrev pub line_size : ℕ
line_size = 17

-- a place, where the line begins there, and no blank line before it, from another place on, is too long
abbrev pub if_line : ℕ → List ℕ → ℕ → Option ℕ
if_line place bytes at =
    if is_line (first_line (drop at bytes)) && ends_at place (take at bytes) then Some at else None

-- where the line begins that is the first from a place on that is not blank, where that is it
abbrev pub line_place : ℕ → List ℕ → Option ℕ
line_place place bytes = option_and_then (if_line place bytes) (after_blanks place bytes)

-- why an item is refused as the first of one vote too many: it begins no vote, or there are too many
abbrev pub one_too_many : Item → FrameFault
one_too_many item = unwrap_or (first_fault vote_tables item) (record { place = item.place; reason = TooMany Votes })

-- a fault of a line where a vote or the line is to stand
abbrev pub of_line : DocFault → InputRefusal
of_line fault = input.Fault (record { place = fault.place; reason = Doc fault.reason })

-- by what stands there, which is to begin a vote; where nothing does, the line is missing
abbrev pub by_first : ℕ → List Item → Option DocFault → Result Ahead InputRefusal
by_first end [] None = Err (input.Missing end)
by_first end [] (Some fault) = Err (of_line fault)
by_first end (item ∷ items) fault = Ok (ahead.Vote (one_too_many item))

-- the same of what stands at a place behind votes
abbrev pub first_at : ℕ → List ℕ → Result Ahead InputRefusal
first_at place bytes =
    by_first (length bytes) (items_from place no_limit bytes).items (items_from place no_limit bytes).fault

-- the line, behind which the consensus begins, or else what is to begin a vote
abbrev pub unless_line : Option ℕ → Result Ahead InputRefusal → Result Ahead InputRefusal
unless_line (Some at) first = Ok (ahead.Consensus (at + line_size))
unless_line None first = first

-- what stands at a place behind votes
abbrev pub ahead_at : ℕ → List ℕ → Result Ahead InputRefusal
ahead_at place bytes = unless_line (line_place place bytes) (first_at place bytes)

-- ---- the votes

-- votes with others in front
abbrev pub with_front : List ReadVote → Result (List ReadVote × ℕ) (Stop InputRefusal) → Result (List ReadVote × ℕ) (Stop InputRefusal)
with_front front (Ok (votes, at)) = Ok (front ++ votes, at)
with_front front (Err why) = Err why

-- a vote that was read, or why there is none
abbrev pub of_vote : Result (ReadVote × ℕ) ReadRefusal → Result (ReadVote × ℕ) (Stop InputRefusal)
of_vote (Ok found) = Ok found
of_vote (Err (read.Frame fault)) = Err (stop.Refused (input.Fault fault))
of_vote (Err read.Memory) = Err stop.Memory

-- votes behind a vote that was read
abbrev pub then_votes : Result (ReadVote × ℕ) (Stop InputRefusal) → (ReadVote × ℕ → Result (List ReadVote × ℕ) (Stop InputRefusal))
    → Result (List ReadVote × ℕ) (Stop InputRefusal)
then_votes (Ok read) more = more read
then_votes (Err why) more = Err why

-- no votes where the line comes next, why there is none where nothing may, and else these
abbrev pub by_ahead : Result Ahead InputRefusal → (FrameFault → Result (List ReadVote × ℕ) (Stop InputRefusal))
    → Result (List ReadVote × ℕ) (Stop InputRefusal)
by_ahead (Err why) votes = Err (stop.Refused why)
by_ahead (Ok (ahead.Consensus at)) votes = Ok ([], at)
by_ahead (Ok (ahead.Vote fault)) votes = votes fault

-- one vote too many
abbrev pub too_many : FrameFault → Result (List ReadVote × ℕ) (Stop InputRefusal)
too_many fault = Err (stop.Refused (input.Fault fault))

-- the votes from a place of the input on, of which there may be so many, and the place behind the line that follows
unfoldable pub votes_from : ℕ → ℕ → List ℕ → Result (List ReadVote × ℕ) (Stop InputRefusal)
votes_from zero place bytes = by_ahead (ahead_at place bytes) too_many
votes_from (suc room) place bytes =
    by_ahead (ahead_at place bytes)
    (λ _. then_votes (of_vote (vote_from place bytes))
    (λ read. with_front (read.0 ∷ []) (votes_from room read.1 bytes)))

-- how many votes an input may have
abbrev pub most_votes : ℕ
most_votes = 64

-- the votes of an input, and the place where its consensus begins; or the first fault of these
abbrev pub votes_of : List ℕ → Result (List ReadVote × ℕ) (Stop InputRefusal)
votes_of bytes = votes_from most_votes 0 bytes

-- ---- the consensus

-- the bytes from a place on
abbrev pub rest_from : ℕ → List ℕ → List ℕ
rest_from at bytes = slice_range bytes at (length bytes)
