-- An input that arrives: no vote ends, a vote ends, the input ends.
use Rattle.std.proofs.Common.{◌≡◌, ◌∙◌, ℕ, ◌+◌, ◌-◌, ◌<◌, ◌≤◌, ◌^◌, List, [], ◌∷◌, ◌++◌, length, take, drop, Option}
use Rattle.std.proofs.Common.{Some, None, Result, Ok, Err, refl, sym, ap, subst, arith, length-append, length-take}
use Rattle.std.proofs.{Common.{length-drop, append_assoc, append-nil}, lemmas.Bool.{eqb-false, eqb-true, le-leb}}
use Rattle.std.{proofs.lemmas.{Bool.leb-true, List.{take_all, take-append-drop}}, specs.Prelude.{◌==◌, Bool, false}}
use Rattle.std.specs.Prelude.{true, nat_le}
use Rattle.frame_terms.specs.declared.fault.{FrameFault.FrameFault, ReadRefusal.TheVariants.Frame}
use Rattle.key_port.specs.Answers.{Rules}
use Rattle.vote_terms.specs.Votes.{ReadVote}
use Rattle.vote_doc.specs.Holdings.{Holding}
use Rattle.daemon_words.specs.declared.{command.{Compute.Compute, Kind.TheVariants.Vote}, stop.Stop.Stop}
use Rattle.daemon_words.specs.declared.stop.Stop.TheVariants as stop
use Rattle.compute_command.specs.declared.refusal.{AcceptRefusal.AcceptRefusal, EndRefusal.EndRefusal}
use Rattle.compute_command.specs.declared.{arriving.Arriving.Arriving, checking.Checking.Checking, rest.Turn.Turn}
use Rattle.compute_command.specs.Arriving.{BeginsBehind, EndsSo, HasArrived, IsArriving, TurnsTo, WithMore}
use Rattle.compute_command.specs.{Checked.{CheckedSo, IsChecked, OneMoreChecked, end_by}, Rests.{AnswersEnd, HasRest}}
use Rattle.compute_command.specs.{Rests.{IsRest, Takes, Turns, room_behind}, Votes.{most_votes, votes_of}}
use Rattle.compute_command.proofs.NextVotes.{no_more, none_yet, one_vote_more, then_fault}
use Rattle.compute_command.specs.declared.refusal.EndRefusal.TheVariants as end
use Rattle.blank_lines.specs.Behind.{fault_behind}
use Rattle.compute_command.specs.declared.rest.Turn.TheVariants as turn

-- whether there may be no vote more
pub no_room : (full : Bool) (count : ℕ) → full ≡ nat_le most_votes count → full ≡ true → most_votes - count ≡ 0
no_room full count same is = omega (arith, leb-true most_votes count (sym same ∙ is))

pub is_full : (full : Bool) (count : ℕ) → full ≡ nat_le most_votes count → most_votes - count ≡ 0 → full ≡ true
is_full full count same none = same ∙ le-leb most_votes count (omega (arith, none))

pub length_taken : (taken : ℕ) (piece : List ℕ) → taken ≤ length piece → length (take taken piece) ≡ taken
length_taken taken piece within = length-take taken piece ∙ omega (arith, within)

pub nothing_left : (done left : List ℕ) → length left ≡ 0 → done ++ left ≡ done
nothing_left done [] none = append-nil done
nothing_left done (b ∷ left) none = absurd (omega (arith, none))

-- what is left of a piece
pub parts_on : (piece done left rest : List ℕ) (taken : ℕ) → piece ≡ done ++ left → rest ≡ drop taken left
    → piece ≡ (done ++ take taken left) ++ rest
parts_on piece done left rest taken parts is =
    parts ∙ ap (λ (l : List ℕ). done ++ l) (sym (take-append-drop taken left))
    ∙ sym (append_assoc done (take taken left) (drop taken left))
    ∙ ap (λ (l : List ℕ). (done ++ take taken left) ++ l) (sym is)

pub rest_is : (left rest : List ℕ) (taken : ℕ) → rest ≡ take (length left - taken) (drop taken left)
    → rest ≡ drop taken left
rest_is left rest taken is = is ∙ take_all (length left - taken) (drop taken left) (omega (arith, length-drop taken left))

-- what comes of more of the bytes behind the last vote, whatever these are
abbrev pub TurnsBehind : Arriving → List ℕ → Turn → Type 0
TurnsBehind old piece next =
    (room : ℕ) (bytes : List ℕ) → IsRest old.start room bytes old.rest → old.start + length bytes + length piece < 2 ^ 61
    → Turns old.start room bytes piece next

-- what is left of a piece is less
pub smaller : (left : List ℕ) (taken : ℕ) → Takes left taken → (length left == 0) ≡ false
    → length (take (length left - taken) (drop taken left)) < length left
smaller left taken takes test =
    let pos = takes.some (omega (arith, eqb-false (length left) 0 test)) in
    let cut = length-take (length left - taken) (drop taken left) in
    omega (arith, cut, length-drop taken left, pos, takes.within)

module _ (rules : Rules) (wanted : Compute) where
  -- what of the bytes is behind the last vote is short enough
  pub behind_short : (bytes : List ℕ) (old : Arriving) (count : ℕ) (is : IsArriving rules wanted bytes old)
      → length bytes + count < 2 ^ 61 → old.start + length is.behind + count < 2 ^ 61
  behind_short bytes old count is short =
      let all = ap (λ (l : List ℕ). length l) is.are in
      omega (arith, is.start, all, length-append is.front is.behind, short)

  -- what is kept of the bytes behind the last vote
  pub rest_of : (old : Arriving) (count : ℕ) → HasArrived rules wanted old count → HasRest old.start old.rest count
  rest_of old count (bytes, is, short) =
      (room_behind is.votes, is.behind, is.rest, behind_short bytes old count is short)

  -- no byte has come
  unfoldable pub none_arrived : (new : Arriving) (checking : Checking) → BeginsBehind 0 checking new → new.votes ≡ checking
      → IsChecked rules wanted [] checking → IsArriving rules wanted [] new
  none_arrived new checking begins same checked = record {
    votes = [];
    front = [];
    behind = [];
    are = refl;
    start = begins.same;
    reads = none_yet;
    rest =
        subst (λ (k : ℕ). IsRest k (room_behind []) [] new.rest) (sym begins.same)
        (subst (λ (k : ℕ). IsRest 0 (most_votes - k) [] new.rest) checked.count begins.rest);
    checked = subst (λ (c : Checking). IsChecked rules wanted [] c) (sym same) checked;
  }

  -- ---- more bytes

  module _ (old : Arriving) (piece : List ℕ) (vote : ReadVote) (count taken : ℕ)
      (arrived : HasArrived rules wanted old (length piece)) (turns : TurnsBehind old piece (turn.Vote vote count taken)) where
    -- a vote that ended is not one too many, and its end is within the input
    pub may_check : old.votes.count < most_votes
    may_check =
        let is = arrived.1 in
        let ended = turns (room_behind is.votes) is.behind is.rest
        (behind_short arrived.0 old (length piece) is arrived.2) in
        omega (arith, is.checked.count, ended.2)

    pub ends_short : old.start + count < 2 ^ 61
    ends_short =
        let is = arrived.1 in
        let short = behind_short arrived.0 old (length piece) is arrived.2 in
        let ended = turns (room_behind is.votes) is.behind is.rest short in
        omega (arith, ended.1, ended.0.within, short)

  -- no vote ended
  unfoldable pub no_vote_ends : (bytes piece : List ℕ) (old new : Arriving) (taken : ℕ) (is : IsArriving rules wanted bytes old)
      → new.start ≡ old.start → new.votes ≡ old.votes
      → Turns old.start (room_behind is.votes) is.behind piece (turn.On new.rest taken)
      → TurnsTo rules wanted bytes piece new taken
  no_vote_ends bytes piece old new taken is start votes turns = record {
    takes = turns.0;
    arrives = record {
      votes = is.votes;
      front = is.front;
      behind = is.behind ++ take taken piece;
      are = ap (λ (l : List ℕ). l ++ take taken piece) is.are ∙ append_assoc is.front is.behind (take taken piece);
      start = start ∙ is.start;
      reads = is.reads;
      rest =
          subst (λ (k : ℕ). IsRest k (room_behind is.votes) (is.behind ++ take taken piece) new.rest) (sym start) turns.1;
      checked = subst (λ (c : Checking). IsChecked rules wanted is.votes c) (sym votes) is.checked;
    };
  }

  -- a vote ended
  unfoldable pub vote_ends : (bytes piece : List ℕ) (old new : Arriving) (vote : ReadVote) (count start taken : ℕ)
      (is : IsArriving rules wanted bytes old)
      → Turns old.start (room_behind is.votes) is.behind piece (turn.Vote vote count taken)
      → start ≡ old.start + count → OneMoreChecked rules wanted vote old.votes new.votes
      → BeginsBehind start new.votes new → TurnsTo rules wanted bytes piece new taken
  vote_ends bytes piece old new vote count start taken is turns start_is more begins =
      let part = take taken piece in
      let own = is.behind ++ part in
      let checked = more is.votes is.checked in
      let size : count ≡ length own = turns.1 ∙ omega (arith, length-append is.behind part, turns.0.within, size_of) in
      record {
        takes = turns.0;
        arrives = record {
          votes = is.votes ++ vote ∷ [];
          front = is.front ++ own;
          behind = [];
          are =
              ap (λ (l : List ℕ). l ++ part) is.are ∙ append_assoc is.front is.behind part
              ∙ sym (append-nil (is.front ++ own));
          start =
              begins.same ∙ start_is ∙ ap (λ (k : ℕ). k + count) is.start ∙ ap (λ (k : ℕ). length is.front + k) size
              ∙ sym (length-append is.front own);
          reads = one_vote_more is.front is.votes is.reads own vote turns.3;
          rest =
              subst (λ (k : ℕ). IsRest k (room_behind (is.votes ++ vote ∷ [])) [] new.rest) (sym begins.same)
              (subst (λ (k : ℕ). IsRest start (most_votes - k) [] new.rest) checked.count begins.rest);
          checked = checked;
        };
      }
    where
      size_of : length (take taken piece) ≡ taken
      size_of = length_taken taken piece turns.0.within

  unfoldable pub vote_ended : (bytes piece : List ℕ) (old new : Arriving) (checking : Checking) (vote : ReadVote)
      (count start taken : ℕ) (is : IsArriving rules wanted bytes old)
      → Turns old.start (room_behind is.votes) is.behind piece (turn.Vote vote count taken)
      → start ≡ old.start + count → OneMoreChecked rules wanted vote old.votes checking
      → BeginsBehind start checking new → new.votes ≡ checking → TurnsTo rules wanted bytes piece new taken
  vote_ended bytes piece old new checking vote count start taken is turns start_is more begins same =
      vote_ends bytes piece old new vote count start taken is turns start_is
      (subst (λ (c : Checking). OneMoreChecked rules wanted vote old.votes c) (sym same) more)
      (subst (λ (c : Checking). BeginsBehind start c new) (sym same) begins)

  -- ---- a piece

  -- so many bytes of a piece come besides, whatever has come
  abbrev pub TurnsFrom : Arriving → List ℕ → Arriving → ℕ → Type 0
  TurnsFrom now left next taken =
      WithMore rules wanted now (length left) (λ bytes. TurnsTo rules wanted bytes left next taken)

  module _ (old now : Arriving) (piece done left : List ℕ) (parts : piece ≡ done ++ left)
      (begun : HasArrived rules wanted old (length piece))
      (so : WithMore rules wanted old (length piece) (λ bytes. IsArriving rules wanted (bytes ++ done) now)) where
    short_on : (bytes : List ℕ) → length bytes + length piece < 2 ^ 61 → length (bytes ++ done) + length left < 2 ^ 61
    short_on bytes short =
        let size = ap (λ (l : List ℕ). length l) parts in
        omega (arith, size, length-append done left, length-append bytes done, short)

    pub turn_takes : (next : Arriving) (taken : ℕ) → TurnsFrom now left next taken → Takes left taken
    turn_takes next taken turns =
        (turns (begun.0 ++ done) (so begun.0 begun.1 begun.2) (short_on begun.0 begun.2)).takes

    pub so_on : (next : Arriving) (taken : ℕ) → TurnsFrom now left next taken
        → WithMore rules wanted old (length piece) (λ bytes. IsArriving rules wanted (bytes ++ (done ++ take taken left)) next)
    so_on next taken turns bytes is short =
        subst (λ (l : List ℕ). IsArriving rules wanted l next) (append_assoc bytes done (take taken left))
        (turns (bytes ++ done) (so bytes is short) (short_on bytes short)).arrives

    pub all_taken : (length left == 0) ≡ true
        → WithMore rules wanted old (length piece) (λ bytes. IsArriving rules wanted (bytes ++ piece) now)
    all_taken test bytes is short =
        subst (λ (l : List ℕ). IsArriving rules wanted (bytes ++ l) now) (sym (parts ∙ nothing_left done left (eqb-true (length left) 0 test)))
        (so bytes is short)

  -- ---- the end

  -- the held votes, or why there are none, as they end
  abbrev Held : Result Holding AcceptRefusal → Result Holding (Stop EndRefusal)
  Held (Ok kept) = Ok kept
  Held (Err why) = Err (stop.Refused (end.Votes why))

  checked_ends : (votes : List ReadVote) (kept : Holding) (first : Option AcceptRefusal) (bytes : List ℕ)
      → votes_of bytes ≡ Ok votes → CheckedSo rules wanted votes kept.votes first
      → EndsSo rules wanted bytes (Held (end_by kept first))
  checked_ends votes kept None bytes read is = (votes, read, is.0, is.1)
  checked_ends votes kept (Some why) bytes read is = (votes, read, is)

  -- the input is votes
  pub ends_checked : (bytes : List ℕ) (old : Arriving) (is : IsArriving rules wanted bytes old) → length bytes < 2 ^ 61
      → AnswersEnd old.start (room_behind is.votes) is.behind None
      → EndsSo rules wanted bytes (Held (end_by old.votes.kept old.votes.first))
  ends_checked bytes old is short ends =
      let read : votes_of bytes ≡ Ok is.votes =
      ap votes_of is.are
      ∙ no_more is.front is.votes is.reads is.behind (subst (λ (l : List ℕ). length l < 2 ^ 61) is.are short) ends in
      checked_ends is.votes old.votes.kept old.votes.first bytes read is.checked.checked

  -- it has a fault
  pub ends_refused : (bytes : List ℕ) (old : Arriving) (fault : FrameFault) (is : IsArriving rules wanted bytes old)
      → length bytes < 2 ^ 61 → AnswersEnd old.start (room_behind is.votes) is.behind (Some fault)
      → EndsSo rules wanted bytes (Err (stop.Refused (end.Fault fault)))
  ends_refused bytes old fault is short (own, same, ends) =
      let short_ = subst (λ (l : List ℕ). length l < 2 ^ 61) is.are short in
      let read : votes_of bytes ≡ Err (Frame (fault_behind (length is.front) own)) =
      ap votes_of is.are ∙ then_fault is.front is.votes is.reads is.behind own short_ ends in
      let there : fault_behind (length is.front) own ≡ fault =
      ap (λ (k : ℕ). fault_behind k own) (sym is.start) ∙ sym same in
      read ∙ ap (λ (f : FrameFault). Err (Frame f)) there

  -- ---- what is answered there

  -- what the bytes behind the last vote are, where no more follow, whatever they are
  abbrev EndsBehind : Arriving → Option FrameFault → Type 0
  EndsBehind old told =
      (room : ℕ) (bytes : List ℕ) → IsRest old.start room bytes old.rest → old.start + length bytes < 2 ^ 61
      → AnswersEnd old.start room bytes told

  module _ (bytes : List ℕ) (old : Arriving) (told : Option FrameFault) (is : IsArriving rules wanted bytes old)
      (short : length bytes + 0 < 2 ^ 61) (ends : EndsBehind old told) where
    there : AnswersEnd old.start (room_behind is.votes) is.behind told
    there =
        let behind_ = behind_short bytes old 0 is short in
        ends (room_behind is.votes) is.behind is.rest (omega (arith, behind_))

    pub end_refused : (fault : FrameFault) → told ≡ Some fault
        → EndsSo rules wanted bytes (Err (stop.Refused (end.Fault fault)))
    end_refused fault some =
        ends_refused bytes old fault is (omega (arith, short))
        (subst (λ (o : Option FrameFault). AnswersEnd old.start (room_behind is.votes) is.behind o) some there)

    end_checked : (result : Result Holding AcceptRefusal) → told ≡ None → result ≡ end_by old.votes.kept old.votes.first
        → EndsSo rules wanted bytes (Held result)
    end_checked result none same =
        subst (λ (r : Result Holding AcceptRefusal). EndsSo rules wanted bytes (Held r)) (sym same)
        (ends_checked bytes old is (omega (arith, short))
        (subst (λ (o : Option FrameFault). AnswersEnd old.start (room_behind is.votes) is.behind o) none there))

    pub end_held : (kept : Holding) → told ≡ None → Ok kept ≡ end_by old.votes.kept old.votes.first
        → EndsSo rules wanted bytes (Ok kept)
    end_held kept none same = end_checked (Ok kept) none same

    pub end_not_held : (why : AcceptRefusal) → told ≡ None → Err why ≡ end_by old.votes.kept old.votes.first
        → EndsSo rules wanted bytes (Err (stop.Refused (end.Votes why)))
    end_not_held why none same = end_checked (Err why) none same
