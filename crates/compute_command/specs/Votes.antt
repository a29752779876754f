-- The votes that an input is: one after the other, with nothing but blank lines before, between and after them.
use Rattle.std.specs.Prelude.{ℕ, zero, suc, List, [], ◌∷◌, ◌++◌, drop, Option, Some, None, Result, Ok, Err, unwrap_or}
use Rattle.std.specs.Option.{option_map}
use Rattle.item_terms.specs.{Items.{Item, items_of, no_limit}, declared.fault.DocFault.DocFault}
use Rattle.frame_terms.specs.declared.fault.{FrameFault.FrameFault, FrameReason.TheVariants.TooMany}
use Rattle.frame_terms.specs.declared.{fault.ReadRefusal.{ReadRefusal, TheVariants.Frame}, row.Limit.TheVariants.Votes}
use Rattle.frame_terms.specs.{Decisions.first_fault, Refusals.of_doc}
use Rattle.vote_terms.specs.Votes.{ReadVote}
use Rattle.blank_lines.specs.Behind.{refusal_behind}
use Rattle.vote_doc.specs.Reading.{vote_from}
use Rattle.vote_frame.specs.Tables.{vote_tables}

-- ---- whether there is one more

-- why the first item of a vote too many is refused: it begins no vote, or there are too many
abbrev pub item_too_many : Item → FrameFault
item_too_many item = unwrap_or (first_fault vote_tables item) (record { place = item.place; reason = TooMany Votes })

abbrev pub by_first : List Item → Option DocFault → Option ReadRefusal
by_first [] None = None
by_first [] (Some fault) = Some (of_doc fault)
by_first (item ∷ items) fault = Some (Frame (item_too_many item))

-- nothing where the bytes are blank lines alone, and else why one more vote is refused that they begin with
abbrev pub one_more_of : List ℕ → Option ReadRefusal
one_more_of bytes = by_first (items_of no_limit bytes).items (items_of no_limit bytes).fault

-- nothing where only blank lines follow a place, and else why one more vote is refused there
abbrev pub one_more : ℕ → List ℕ → Option ReadRefusal
one_more place bytes = option_map (refusal_behind place) (one_more_of (drop place bytes))

-- ---- the votes

abbrev pub then_votes : Result (ReadVote × ℕ) ReadRefusal → (ReadVote × ℕ → Result (List ReadVote) ReadRefusal)
    → Result (List ReadVote) ReadRefusal
then_votes (Ok read) more = more read
then_votes (Err refusal) more = Err refusal

abbrev pub with_front : List ReadVote → Result (List ReadVote) ReadRefusal → Result (List ReadVote) ReadRefusal
with_front front (Ok votes) = Ok (front ++ votes)
with_front front (Err refusal) = Err refusal

-- no votes where the input ends, and else this
abbrev pub unless_end : Option ReadRefusal → Result (List ReadVote) ReadRefusal → Result (List ReadVote) ReadRefusal
unless_end None votes = Ok []
unless_end (Some refusal) votes = votes

-- no votes where the input ends, and else the refusal of one too many
abbrev pub unless_more : Option ReadRefusal → Result (List ReadVote) ReadRefusal
unless_more None = Ok []
unless_more (Some refusal) = Err refusal

-- the votes from a place of the input on, of which there may be so many
unfoldable pub votes_from : ℕ → ℕ → List ℕ → Result (List ReadVote) ReadRefusal
votes_from zero place bytes = unless_more (one_more place bytes)
votes_from (suc room) place bytes =
    unless_end (one_more place bytes)
    (then_votes (vote_from place bytes) (λ read. with_front (read.0 ∷ []) (votes_from room read.1 bytes)))

-- how many votes an input may have
abbrev pub most_votes : ℕ
most_votes = 64

-- the votes that the input is, or its first fault
abbrev pub votes_of : List ℕ → Result (List ReadVote) ReadRefusal
votes_of bytes = votes_from most_votes 0 bytes
