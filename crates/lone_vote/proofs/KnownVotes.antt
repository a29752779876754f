-- What is known of bytes that arrive, as a vote alone, whatever follows.
use Rattle.std.proofs.Common.{◌≡◌, ◌∙◌, ℕ, ◌+◌, Bool, true, false, List, [], ◌++◌, length, take, drop, Ok, Err, sym, ap}
use Rattle.std.proofs.{Common.{subst, append_assoc, append-nil}, lemmas.List.take-append-drop}
use Rattle.item_terms.specs.Lines.{lines}
use Rattle.frame_terms.specs.declared.fault.ReadRefusal.TheVariants.{Frame}
use Rattle.vote_terms.specs.Votes.{ReadVote}
use Rattle.vote_doc.specs.Reading.{ReadsVote, vote_of}
use Rattle.vote_feed.specs.{declared.{blanks.Blank.Blank, fed.Fed.Fed}, Blanks.blank_of, Feeding.{Feeds, IsOpen}}
use Rattle.vote_feed.{specs.Feeding.{IsWhole, are_blank_lines, end_of}, proofs.FedVotes.{end_or, whole_read}}
use Rattle.vote_feed.proofs.{WholeVotes.whole_stay, EndedVotes.open_are_none}
use Rattle.vote_feed.specs.declared.fed.Fed.TheVariants as fed
use Rattle.blank_lines.specs.Blanks.{after_blanks}
use Rattle.lone_vote.{specs.{Coming.{BeginsWith, IsVoteOf}, Alone.{IsVote, NoneIs}}, proofs.BlankLines.lines_behind}
use Rattle.lone_vote.proofs.BlankLines.{no_other, none_other}

-- ---- a feeder's vote

-- what is read of whole bytes is their vote
pub vote_of_whole : (bytes : List ℕ) (vote : ReadVote) (end : ℕ) → IsWhole bytes → ReadsVote bytes (Ok (vote, end))
    → IsVoteOf bytes vote
vote_of_whole bytes vote end whole reads =
    let read = whole_read bytes (vote, end) whole reads in
    read.0 ∙ ap (λ (k : ℕ). Ok (vote, k)) read.1

-- ---- a piece more

-- bytes behind a part of a piece
past_part : (old piece more new : List ℕ) (taken : ℕ) → new ≡ old ++ take taken piece
    → (old ++ piece) ++ more ≡ new ++ (drop taken piece ++ more)
past_part old piece more new taken is =
    ap (λ (l : List ℕ). (old ++ l) ++ more) (sym (take-append-drop taken piece))
    ∙ ap (λ (l : List ℕ). l ++ more) (sym (append_assoc old (take taken piece) (drop taken piece)))
    ∙ ap (λ (l : List ℕ). (l ++ drop taken piece) ++ more) (sym is)
    ∙ append_assoc new (drop taken piece) more

-- all of a piece was taken, and nothing is known yet
pub all_open : (old piece new : List ℕ) (given : Fed) → Feeds old piece new given → given ≡ fed.All
    → (new ≡ old ++ piece) × IsOpen (old ++ piece)
all_open old piece new given feeds is =
    let by = subst (λ (g : Fed). Feeds old piece new g) is feeds in
    (by.0, subst (λ (l : List ℕ). IsOpen l) by.0 by.1)

-- bytes whose vote is faulty are none
pub faulty_none : (old piece new : List ℕ) (given : Fed) (taken : ℕ) → Feeds old piece new given
    → given ≡ fed.Fault taken → (more : List ℕ) → NoneIs (IsVote ((old ++ piece) ++ more))
faulty_none old piece new given taken feeds is more vote stands =
    let by = subst (λ (g : Fed). Feeds old piece new g) is feeds in
    let ends : Ok stands.used ≡ Err (Frame by.2.fault) =
    sym (ap end_of stands.reads) ∙ ap (λ (l : List ℕ). end_of (vote_of l)) (past_part old piece more new taken by.1)
    ∙ by.2.refused (drop taken piece ++ more) in
    cc ends

-- bytes whose vote ends in a piece begin with it
pub begins_whole : (old piece new : List ℕ) (given : Fed) (taken : ℕ) (vote : ReadVote) (behind : Blank)
    → Feeds old piece new given → given ≡ fed.Whole taken → IsVoteOf new vote → behind ≡ blank_of (drop taken piece)
    → BeginsWith (old ++ piece) vote behind
begins_whole old piece new given taken vote behind feeds is vote_is blank =
    let by = subst (λ (g : Fed). Feeds old piece new g) is feeds in
    record {
      own = new;
      rest = drop taken piece;
      parts =
          ap (λ (l : List ℕ). old ++ l) (sym (take-append-drop taken piece))
          ∙ sym (append_assoc old (take taken piece) (drop taken piece))
          ∙ ap (λ (l : List ℕ). l ++ drop taken piece) (sym by.1);
      whole = by.2;
      is = vote_is;
      blank = blank;
    }

-- and with a piece more
pub begins_more : (bytes piece : List ℕ) (vote : ReadVote) (behind then : Blank) → BeginsWith bytes vote behind
    → ((rest : List ℕ) → behind ≡ blank_of rest → then ≡ blank_of (rest ++ piece))
    → BeginsWith (bytes ++ piece) vote then
begins_more bytes piece vote behind then begins blank = record {
  own = begins.own;
  rest = begins.rest ++ piece;
  parts = ap (λ (l : List ℕ). l ++ piece) begins.parts ∙ append_assoc begins.own begins.rest piece;
  whole = begins.whole;
  is = begins.is;
  blank = blank begins.rest begins.blank;
}

-- what is no vote, whatever follows, is none with a piece more
pub none_more : (bytes piece : List ℕ) → ((more : List ℕ) → NoneIs (IsVote (bytes ++ more)))
    → (more : List ℕ) → NoneIs (IsVote ((bytes ++ piece) ++ more))
none_more bytes piece none more vote stands =
    none (piece ++ more) vote (subst (λ (l : List ℕ). IsVote l vote) (append_assoc bytes piece more) stands)

-- ---- the end

pub none_at_end : (bytes : List ℕ) → ((more : List ℕ) → NoneIs (IsVote (bytes ++ more))) → NoneIs (IsVote bytes)
none_at_end bytes none vote stands =
    none [] vote (subst (λ (l : List ℕ). IsVote l vote) (sym (append-nil bytes)) stands)

-- bytes of which nothing is known are no vote
pub open_none : (bytes : List ℕ) → IsOpen bytes → NoneIs (IsVote bytes)
open_none bytes open_ vote stands = open_are_none bytes vote stands.used open_ stands.reads

module _ (bytes : List ℕ) (vote : ReadVote) (behind : Blank) (blank : Bool) (begins : BeginsWith bytes vote behind)
    (says : (rest : List ℕ) → behind ≡ blank_of rest → blank ≡ are_blank_lines rest) where
  -- bytes that begin with a vote are that vote where blank lines alone stand behind it
  pub found_whole : blank ≡ true → IsVote bytes vote
  found_whole is =
      let own = begins.own in
      let rest = begins.rest in
      let all = sym (says rest begins.blank) ∙ is in
      record {
        used = length own;
        reads =
            ap vote_of begins.parts
            ∙ whole_stay own rest begins.whole
            ∙ begins.is;
        alone =
            ap (after_blanks (length own)) begins.parts ∙ lines_behind own rest
            ∙ none_other (length own) (lines rest) all;
      }

  -- and else none
  pub none_whole : blank ≡ false → NoneIs (IsVote bytes)
  none_whole is other stands =
      let own = begins.own in
      let rest = begins.rest in
      let ends : Ok stands.used ≡ Ok (length own) =
      sym (ap end_of stands.reads) ∙ ap (λ (l : List ℕ). end_of (vote_of l)) begins.parts ∙ begins.whole rest in
      let used : stands.used ≡ length own = ap (end_or 0) ends in
      let alone = sym (lines_behind own rest) ∙ ap (after_blanks (length own)) (sym begins.parts)
      ∙ ap (λ (k : ℕ). after_blanks k bytes) (sym used) ∙ stands.alone in
      let all : false ≡ true = sym is ∙ says rest begins.blank ∙ no_other (length own) (lines rest) alone in
      cc all
