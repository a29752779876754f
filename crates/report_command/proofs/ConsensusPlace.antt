-- The line in front of the consensus stands within the input, and so does the first fault of what follows it.
use Rattle.std.proofs.Common.{◌≡◌, ℕ, zero, suc, ◌+◌, ◌<◌, Bool, true, false, List, [], ◌∷◌, length, drop, take, Option}
use Rattle.std.proofs.{Common.{Some, None, Result, Ok, Err, arith, length-drop, refl, subst}, lemmas.Bool.ltb-true}
use Rattle.std.specs.Prelude.{◌&&◌, IfSome, if◌then◌else◌, nat_lt, option_and_then}
use Rattle.item_terms.specs.{Items.Item, declared.fault.DocFault.DocFault}
use Rattle.dirdoc_grammar.specs.Reading.{first_line, first_line_len}
use Rattle.blank_lines.specs.{Blanks.after_blanks, Ends.ends_at}
use Rattle.frame_terms.specs.declared.fault.FrameFault.{FrameFault}
use Rattle.vote_terms.specs.Votes.{ReadVote}
use Rattle.vote_doc.specs.Reading.{vote_from}
use Rattle.daemon_words.specs.declared.stop.Stop.{Stop}
use Rattle.report_command.specs.{declared.{reading.Ahead.Ahead, refusal.InputRefusal.InputRefusal}, Inputs.ahead_at}
use Rattle.report_command.specs.Inputs.{by_ahead, by_first, first_at, if_line, is_line, is_line_text, line_place}
use Rattle.report_command.specs.Inputs.{line_size, most_votes, of_vote, then_votes, too_many, unless_line, votes_from}
use Rattle.report_command.{specs.Inputs.{votes_of, with_front}, proofs.Chains.Read}
use Rattle.report_command.specs.declared.reading.Ahead.TheVariants as ahead

-- ---- the line

second_test_holds : (a b : Bool) → (a && b) ≡ true → b ≡ true
second_test_holds true b e = e
second_test_holds false b e = absurd (cc e)

-- a line with its NL has a byte
line_there : (rest : List ℕ) → is_line (first_line rest) ≡ true → 0 < length rest
line_there rest e =
    let ended : nat_lt (first_line_len rest) (length rest) ≡ true =
    second_test_holds (is_line_text (first_line rest).text) (nat_lt (first_line_len rest) (length rest)) e in
    omega (arith, ltb-true (first_line_len rest) (length rest) ended)

-- the line, if it stands there, begins within the input
line_in : (place : ℕ) (bytes : List ℕ) → IfSome (line_place place bytes) (λ at. at < length bytes)
line_in place bytes = by (after_blanks place bytes)
  where
    begins : (at : ℕ) (line ends : Bool) → is_line (first_line (drop at bytes)) ≡ line
        → IfSome (if line && ends then Some at else None) (λ found. found < length bytes)
    begins at false ends e = tt
    begins at true false e = tt
    begins at true true e = omega (arith, line_there (drop at bytes) e, length-drop at bytes)

    by : (found : Option ℕ) → IfSome (option_and_then (if_line place bytes) found) (λ at. at < length bytes)
    by None = tt
    by (Some at) = begins at (is_line (first_line (drop at bytes))) (ends_at place (take at bytes)) refl

-- ---- what comes next

-- the consensus, if it comes next, begins before this place
abbrev AheadIn : ℕ → Result Ahead InputRefusal → Type 0
AheadIn n (Err why) = Unit {0}
AheadIn n (Ok (ahead.Consensus at)) = at < n
AheadIn n (Ok (ahead.Vote fault)) = Unit {0}

first_in : (n end_ : ℕ) (items : List Item) (fault : Option DocFault) → AheadIn n (by_first end_ items fault)
first_in n end_ [] None = tt
first_in n end_ [] (Some fault) = tt
first_in n end_ (item ∷ items) fault = tt

unless_in : (n : ℕ) (line : Option ℕ) (first : Result Ahead InputRefusal) → IfSome line (λ at. at < n)
    → AheadIn (n + line_size) first → AheadIn (n + line_size) (unless_line line first)
unless_in n (Some at) first is other = omega (arith, is)
unless_in n None first is other = other

ahead_in : (place : ℕ) (bytes : List ℕ) → AheadIn (length bytes + line_size) (ahead_at place bytes)
ahead_in place bytes =
    unless_in (length bytes) (line_place place bytes) (first_at place bytes) (line_in place bytes)
    (first_in (length bytes + line_size) (length bytes) _ _)

-- ---- votes

-- the consensus, if it follows votes, begins before this place
abbrev ReadIn : ℕ → Read → Type 0
ReadIn n (Ok (votes, at)) = at < n
ReadIn n (Err why) = Unit {0}

front_in : (n : ℕ) (front : List ReadVote) (read : Read) → ReadIn n read → ReadIn n (with_front front read)
front_in n front (Ok (votes, at)) is = is
front_in n front (Err why) is = tt

then_in : (n : ℕ) (vote : Result (ReadVote × ℕ) (Stop InputRefusal)) (more : ReadVote × ℕ → Read)
    → ((read : ReadVote × ℕ) → ReadIn n (more read)) → ReadIn n (then_votes vote more)
then_in n (Ok read) more each = each read
then_in n (Err why) more each = tt

next_in : (n : ℕ) (next : Result Ahead InputRefusal) (votes : FrameFault → Read) → AheadIn n next
    → ((fault : FrameFault) → ReadIn n (votes fault)) → ReadIn n (by_ahead next votes)
next_in n (Err why) votes is each = tt
next_in n (Ok (ahead.Consensus at)) votes is each = is
next_in n (Ok (ahead.Vote fault)) votes is each = each fault

votes_in : (room place : ℕ) (bytes : List ℕ) → ReadIn (length bytes + line_size) (votes_from room place bytes)
unfolding votes_from
votes_in zero place bytes =
    next_in (length bytes + line_size) (ahead_at place bytes) too_many (ahead_in place bytes) (λ fault. tt)
votes_in (suc room) place bytes =
    let n = length bytes + line_size in
    next_in n (ahead_at place bytes) _ (ahead_in place bytes)
    (λ fault. then_in n (of_vote (vote_from place bytes)) _
    (λ read. front_in n (read.0 ∷ []) (votes_from room read.1 bytes) (votes_in room read.1 bytes)))

-- the consensus begins no further behind the input than the line is long
pub consensus_begins : (bytes : List ℕ) (votes : List ReadVote) (at : ℕ) → votes_of bytes ≡ Ok (votes, at)
    → at < length bytes + 17
consensus_begins bytes votes at is = subst (ReadIn (length bytes + line_size)) is (votes_in most_votes 0 bytes)
