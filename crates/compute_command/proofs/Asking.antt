-- What the verifier is asked of the bytes of an input, by the votes that end in them.
use Rattle.std.proofs.Common.{◌≡◌, ◌∙◌, ℕ, ◌+◌, ◌<◌, ◌^◌, List, [], ◌∷◌, ◌++◌, length, take, Option, Some, None, Ok}
use Rattle.std.proofs.Common.{Err, refl, sym, ap, subst, arith, length-append, append_assoc, append-nil}
use Rattle.std.{proofs.lemmas.Bool.eqb-true, specs.Prelude.{◌==◌, true}}
use Rattle.frame_terms.specs.declared.fault.{FrameFault.FrameFault, ReadRefusal.{ReadRefusal, TheVariants.Frame}}
use Rattle.key_port.specs.Answers.{Rules, Steps}
use Rattle.vote_terms.specs.Votes.{ReadVote}
use Rattle.blank_lines.specs.Behind.{refusal_behind}
use Rattle.daemon_words.specs.declared.command.Compute.{Compute}
use Rattle.vote_feed.specs.Feeding.{IsOpen}
use Rattle.compute_command.specs.declared.{arriving.Arriving.Arriving, checking.Checking.Checking, rest.Stage.Stage}
use Rattle.compute_command.specs.{Arriving.BeginsBehind, Asked.{AskedBefore, AsksArrived, AsksOfBytes, AsksVotes}}
use Rattle.compute_command.specs.{Asked.{AsksOneMore, BeginsNone}, Checked.OneMoreChecked, Rests.{AreVotes, HasFault}}
use Rattle.compute_command.specs.{Rests.{Knows, Read, Turns, next_by, next_of, room_behind, vote_if}, Votes.one_more_of}
use Rattle.compute_command.{specs.Votes.votes_of, proofs.Arrivals.{no_vote_ends, nothing_left, vote_ended, vote_ends}}
use Rattle.compute_command.proofs.{NextVotes.{no_more, votes_then}, Rests.{none_there, open_has_none, vote_there}}
use Rattle.compute_command.proofs.Turning.{ends_none}
use Rattle.compute_command.specs.declared.rest.Turn.TheVariants as turn
use Rattle.compute_command.specs.declared.rest.Stage.TheVariants as stage

-- ---- no vote more

-- a vote or its refusal, as it stands there
there_is : (room : ℕ) (bytes : List ℕ) (more : Option ReadRefusal) (next : Option Read) → one_more_of bytes ≡ more
    → next_of room bytes ≡ next → next_by more room bytes ≡ next
there_is room bytes more next same is = ap (λ (o : Option ReadRefusal). next_by o room bytes) (sym same) ∙ is

none_open : (room : ℕ) (bytes : List ℕ) → IsOpen bytes → 0 < room → BeginsNone room bytes
none_open room bytes open_ some vote end is = by (one_more_of bytes) refl
  where
    by : (more : Option ReadRefusal) → one_more_of bytes ≡ more → ⊥
    by None e = let wrong = there_is room bytes None (Some (Ok (vote, end))) e is in cc wrong
    by (Some refusal) e =
        let there = there_is room bytes (Some refusal) (Some (Ok (vote, end))) e is in
        let own : vote_if room refusal bytes ≡ Ok (vote, end) = cc there in
        open_has_none bytes open_ vote end (sym (vote_there room refusal bytes some) ∙ own)

none_full : (room : ℕ) (bytes : List ℕ) → room ≡ 0 → BeginsNone room bytes
none_full room bytes full vote end is = by (one_more_of bytes) refl
  where
    by : (more : Option ReadRefusal) → one_more_of bytes ≡ more → ⊥
    by None e = let wrong = there_is room bytes None (Some (Ok (vote, end))) e is in cc wrong
    by (Some refusal) e =
        let there = there_is room bytes (Some refusal) (Some (Ok (vote, end))) e is in
        let own : vote_if room refusal bytes ≡ Ok (vote, end) = cc there in
        let wrong : Err refusal ≡ Ok (vote, end) = sym (none_there room refusal bytes full) ∙ own in
        cc wrong

none_faulted : (room : ℕ) (bytes : List ℕ) (own : FrameFault) → HasFault room bytes own → length bytes < 2 ^ 61
    → BeginsNone room bytes
none_faulted room bytes own has short vote end is = by (one_more_of bytes) refl
  where
    same : bytes ++ [] ≡ bytes
    same = append-nil bytes

    by : (more : Option ReadRefusal) → one_more_of bytes ≡ more → ⊥
    by None e = let wrong = there_is room bytes None (Some (Ok (vote, end))) e is in cc wrong
    by (Some refusal) e =
        let fault : next_of room bytes ≡ Some (Err (Frame own)) =
        subst (λ (l : List ℕ). next_of room l ≡ Some (Err (Frame own))) same
        (has [] (subst (λ (l : List ℕ). length l < 2 ^ 61) (sym same) short) refusal
        (subst (λ (l : List ℕ). one_more_of l ≡ Some refusal) (sym same) e)) in
        let wrong : Some (Err (Frame own)) ≡ Some (Ok (vote, end)) = sym fault ∙ is in
        cc wrong

-- by what is known of the bytes
none_known : (start room : ℕ) (bytes : List ℕ) (known : Stage) → Knows start room bytes known → length bytes < 2 ^ 61
    → BeginsNone room bytes
none_known start room bytes (stage.Reading feeder) (same, open_, some) short = none_open room bytes open_ some
none_known start room bytes (stage.Full beyond) (same, full) short = none_full room bytes full
none_known start room bytes (stage.Faulted fault) (own, same, has) short = none_faulted room bytes own has short

-- ---- the votes of the bytes

nothing_behind : (room : ℕ) → next_of room [] ≡ None
nothing_behind room = ends_none 0 room [] (omega arith) refl

module _ (front : List ℕ) (votes : List ReadVote) (are : AreVotes front votes) where
  front_is : length front < 2 ^ 61 → votes_of front ≡ Ok votes
  front_is short =
      let same : front ++ [] ≡ front = append-nil front in
      ap votes_of (sym same)
      ∙ no_more front votes are [] (subst (λ (l : List ℕ). length l < 2 ^ 61) (sym same) short)
      (nothing_behind (room_behind votes))

  -- where no vote more begins behind them, they are all
  all_are : (behind : List ℕ) (whole : List ReadVote) → length (front ++ behind) < 2 ^ 61
      → BeginsNone (room_behind votes) behind → votes_of (front ++ behind) ≡ Ok whole → whole ≡ votes
  all_are behind whole short others is = by (next_of (room_behind votes) behind) refl
    where
      by : (next : Option Read) → next_of (room_behind votes) behind ≡ next → whole ≡ votes
      by None e =
          let own : Ok whole ≡ Ok votes = sym is ∙ no_more front votes are behind short e in
          cc own
      by (Some (Ok (vote, end))) e = absurd (others vote end e)
      by (Some (Err refusal)) e =
          let own : Ok whole ≡ Err (refusal_behind (length front) refusal) =
          sym is ∙ votes_then front votes are behind (Some (Err refusal)) short e in
          absurd (cc own)

-- ---- of the bytes that have come

module _ {V : Type 0} (steps : Steps V) (rules : Rules) (wanted : Compute) where
  pub asks_bytes : (bytes : List ℕ) (arriving : Arriving) (start now : V) → length bytes < 2 ^ 61
      → AsksArrived steps rules wanted bytes arriving start now
      → AsksOfBytes steps rules wanted bytes arriving.votes.first start now
  asks_bytes bytes arriving start now short (is, asked) =
      let size = ap (λ (l : List ℕ). length l) is.are in
      let parts = length-append is.front is.behind in
      let others : BeginsNone (room_behind is.votes) is.behind =
      none_known arriving.start (room_behind is.votes) is.behind arriving.rest.stage is.rest.knows
      (omega (arith, size, parts, short)) in
      record {
        front = is.front;
        behind = is.behind;
        are = is.are;
        votes = is.votes;
        read = front_is is.front is.votes is.reads (omega (arith, size, parts, short));
        stay = is.reads;
        others = others;
        all = λ whole read.
            all_are is.front is.votes is.reads is.behind whole (subst (λ (l : List ℕ). length l < 2 ^ 61) is.are short)
            others (sym (ap votes_of is.are) ∙ read);
        kept = arriving.votes.kept.votes;
        checked = is.checked.checked;
        asked = asked;
      }

  -- no vote ended
  pub asked_same : (bytes piece : List ℕ) (old new : Arriving) (taken : ℕ) (start now : V)
      (asked : AsksArrived steps rules wanted bytes old start now) → new.start ≡ old.start → new.votes ≡ old.votes
      → Turns old.start (room_behind asked.0.votes) asked.0.behind piece (turn.On new.rest taken)
      → AsksArrived steps rules wanted (bytes ++ take taken piece) new start now
  unfolding no_vote_ends
  asked_same bytes piece old new taken start now (is, asked) start_is same turns = (
    (no_vote_ends rules wanted bytes piece old new taken is start_is same turns).arrives,
    subst (λ (c : Checking). AsksVotes steps is.votes c.first start now) (sym same) asked,
  )

  -- a vote ended
  pub asked_ended : (bytes piece : List ℕ) (old new : Arriving) (checking : Checking) (vote : ReadVote)
      (count place taken : ℕ) (start before now : V) (asked : AsksArrived steps rules wanted bytes old start before)
      → Turns old.start (room_behind asked.0.votes) asked.0.behind piece (turn.Vote vote count taken)
      → place ≡ old.start + count → OneMoreChecked rules wanted vote old.votes checking
      → BeginsBehind place checking new → new.votes ≡ checking → AsksOneMore steps vote old.votes checking before now
      → AsksArrived steps rules wanted (bytes ++ take taken piece) new start now
  unfolding vote_ended vote_ends
  asked_ended bytes piece old new checking vote count place taken start before now (is, asked) turns place_is more begins same asks = (
    (vote_ended rules wanted bytes piece old new checking vote count place taken is turns place_is more begins same).arrives,
    subst (λ (c : Checking). AsksVotes steps (is.votes ++ vote ∷ []) c.first start now) (sym same)
        (asks is.votes start is.checked.count asked),
  )

  -- ---- pieces

  -- none has come
  pub asked_first : (old : Arriving) (count : ℕ) (now : V)
      → AskedBefore steps rules wanted old count now
      (λ start bytes. AsksArrived steps rules wanted (bytes ++ []) old start now)
  asked_first old count now bytes start asked short =
      subst (λ (l : List ℕ). AsksArrived steps rules wanted l old start now) (sym (append-nil bytes)) asked

  module _ (old now : Arriving) (piece done left : List ℕ) (parts : piece ≡ done ++ left) (before between : V)
      (so : AskedBefore steps rules wanted old (length piece) before
      (λ start bytes. AsksArrived steps rules wanted (bytes ++ done) now start between)) where
    -- one more
    pub asked_on : (next : Arriving) (taken : ℕ) (then : V)
        → AskedBefore steps rules wanted now (length left) between
        (λ start bytes. AsksArrived steps rules wanted (bytes ++ take taken left) next start then)
        → AskedBefore steps rules wanted old (length piece) before
        (λ start bytes. AsksArrived steps rules wanted (bytes ++ (done ++ take taken left)) next start then)
    asked_on next taken then turns bytes start asked short =
        let size = ap (λ (l : List ℕ). length l) parts in
        subst (λ (l : List ℕ). AsksArrived steps rules wanted l next start then) (append_assoc bytes done (take taken left))
        (turns (bytes ++ done) start (so bytes start asked short)
        (omega (arith, size, length-append done left, length-append bytes done, short)))

    -- all
    pub asked_all : (length left == 0) ≡ true
        → AskedBefore steps rules wanted old (length piece) before
        (λ start bytes. AsksArrived steps rules wanted (bytes ++ piece) now start between)
    asked_all none bytes start asked short =
        let same : done ++ left ≡ done = nothing_left done left (eqb-true (length left) 0 none) in
        subst (λ (l : List ℕ). AsksArrived steps rules wanted (bytes ++ l) now start between) (sym (parts ∙ same))
        (so bytes start asked short)
