-- The votes of an input of `report` that are read from a place on are those that stand there before the line.
use Rattle.std.proofs.Common.{◌≡◌, ◌∙◌, ℕ, zero, suc, ◌≤◌, List, [], ◌∷◌, length, Option, Some, None, Result, Ok, Err}
use Rattle.std.proofs.Common.{refl, sym, ap, arith}
use Rattle.item_terms.specs.{Items.{Item, items_from, no_limit}, declared.fault.DocFault.DocFault}
use Rattle.frame_terms.specs.declared.fault.{FrameFault.FrameFault, ReadRefusal.ReadRefusal}
use Rattle.frame_terms.specs.declared.fault.ReadRefusal.TheVariants as read
use Rattle.vote_terms.specs.Votes.{ReadVote}
use Rattle.vote_doc.specs.Reading.{vote_from}
use Rattle.report_command.specs.Inputs.{ahead_at, by_ahead, by_first, first_at, line_place, most_votes, of_vote}
use Rattle.report_command.specs.Inputs.{one_too_many, then_votes, too_many, unless_line, votes_from, votes_of}
use Rattle.report_command.specs.Inputs.{with_front}
use Rattle.answer_laws.specs.ReportInputs.{AreVotesBefore, IsLineAt, IsOther, ReportInputsAreVotes}

-- the type of a value, where one of its parts is named in its own crate alone
abbrev TypeOf : {A : Type 0} → A → Type 0
TypeOf {A} value = A

abbrev Read : Type 0
Read = TypeOf (votes_of [])

abbrev read_as : List ReadVote → ℕ → Read
read_as votes behind = Ok (votes, behind)

abbrev votes_or : List ReadVote → Read → List ReadVote
votes_or other (Ok (votes, behind)) = votes
votes_or other (Err why) = other

abbrev behind_or : ℕ → Read → ℕ
behind_or other (Ok (votes, behind)) = behind
behind_or other (Err why) = other

-- ---- what is read stands there

-- the line comes next, or a vote and those behind it
data Comes (place : ℕ) (bytes : List ℕ) (more : FrameFault → Read) (votes : List ReadVote) (behind : ℕ) : Type 0 where
  line_comes : IsLineAt place bytes behind → votes ≡ [] → Comes place bytes more votes behind
  vote_comes : (why : FrameFault) → IsOther place bytes → more why ≡ read_as votes behind
      → Comes place bytes more votes behind

comes_by : (place : ℕ) (bytes : List ℕ) (more : FrameFault → Read) (votes : List ReadVote) (behind : ℕ)
    → by_ahead (ahead_at place bytes) more ≡ read_as votes behind → Comes place bytes more votes behind
comes_by place bytes more votes behind is = by (line_place place bytes) refl is
  where
    by_items : (items : List Item) (fault : Option DocFault) → line_place place bytes ≡ None
        → (items_from place no_limit bytes).items ≡ items
        → by_ahead (by_first (length bytes) items fault) more ≡ read_as votes behind
        → Comes place bytes more votes behind
    by_items [] None none e same = absurd (cc same)
    by_items [] (Some fault) none e same = absurd (cc same)
    by_items (item ∷ items) fault none e same =
        vote_comes (one_too_many item) (record { none = none; item = item; others = items; stand = e }) same

    by : (line : Option ℕ) → line_place place bytes ≡ line
        → by_ahead (unless_line line (first_at place bytes)) more ≡ read_as votes behind
        → Comes place bytes more votes behind
    by (Some at) e same =
        line_comes (record { line = at; stands = e; is_behind = sym (ap (behind_or 0) same) })
        (sym (ap (votes_or []) same))
    by None e same =
        by_items (items_from place no_limit bytes).items (items_from place no_limit bytes).fault e refl same

-- what one vote and those behind it make
data Split (found : Result (ReadVote × ℕ) ReadRefusal) (more : ReadVote × ℕ → Read) (votes : List ReadVote)
    (behind : ℕ) : Type 0 where
  splits : (vote : ReadVote) (end : ℕ) (others : List ReadVote) → found ≡ Ok (vote, end)
      → more (vote, end) ≡ read_as others behind → votes ≡ vote ∷ others → Split found more votes behind

front_is : (vote : ReadVote) (found : Read) (votes : List ReadVote) (behind : ℕ)
    → with_front (vote ∷ []) found ≡ read_as votes behind
    → (others : List ReadVote) × (found ≡ read_as others behind) × (votes ≡ vote ∷ others)
front_is vote (Ok (others, at)) votes behind is =
    (others, ap (λ (k : ℕ). read_as others k) (ap (behind_or 0) is), sym (ap (votes_or []) is))
front_is vote (Err why) votes behind is = absurd (cc is)

split_by : (found : Result (ReadVote × ℕ) ReadRefusal) (more : ReadVote × ℕ → Read) (votes : List ReadVote)
    (behind : ℕ) → then_votes (of_vote found) (λ r. with_front (r.0 ∷ []) (more r)) ≡ read_as votes behind
    → Split found more votes behind
split_by (Ok (vote, end)) more votes behind is =
    let w = front_is vote (more (vote, end)) votes behind is in splits vote end w.0 refl w.1 w.2
split_by (Err (read.Frame fault)) more votes behind is = absurd (cc is)
split_by (Err read.Memory) more votes behind is = absurd (cc is)

votes_stand_before : (room place : ℕ) (bytes : List ℕ) (votes : List ReadVote) (behind : ℕ)
    → votes_from room place bytes ≡ read_as votes behind
    → AreVotesBefore place votes behind bytes × (length votes ≤ room)
unfolding votes_from
votes_stand_before zero place bytes votes behind is =
    elim (comes_by place bytes too_many votes behind is) [
      | line_comes line none ↦ rw none (line, omega arith)
      | vote_comes why other none ↦ absurd (cc none)
    ]
votes_stand_before (suc room) place bytes votes behind is =
    elim (comes_by place bytes
    (λ (f : FrameFault). then_votes (of_vote (vote_from place bytes))
    (λ r. with_front (r.0 ∷ []) (votes_from room r.1 bytes))) votes behind is) [
      | line_comes line none ↦ rw none (line, omega arith)
      | vote_comes why other more ↦
          elim (split_by (vote_from place bytes) (λ r. votes_from room r.1 bytes) votes behind more) [
            | splits vote end others found rest are ↦
                let t = votes_stand_before room end bytes others behind rest in
                rw are ((other, end, found, t.0), omega (arith, t.1))
          ]
    ]

-- ---- what stands there is read

line_read : (place : ℕ) (bytes : List ℕ) (behind : ℕ) (more : FrameFault → Read) → IsLineAt place bytes behind
    → by_ahead (ahead_at place bytes) more ≡ read_as [] behind
line_read place bytes behind more is =
    ap (λ (o : Option ℕ). by_ahead (unless_line o (first_at place bytes)) more) is.stands
    ∙ ap (λ (k : ℕ). read_as [] k) (sym is.is_behind)

vote_read : (place : ℕ) (bytes : List ℕ) (more : FrameFault → Read) (is : IsOther place bytes)
    → by_ahead (ahead_at place bytes) more ≡ more (one_too_many is.item)
vote_read place bytes more is =
    ap (λ (o : Option ℕ). by_ahead (unless_line o (first_at place bytes)) more) is.none
    ∙ ap (λ (l : List Item). by_ahead (by_first (length bytes) l (items_from place no_limit bytes).fault) more) is.stand

back : (room place : ℕ) (bytes : List ℕ) (votes : List ReadVote) (behind : ℕ)
    → AreVotesBefore place votes behind bytes → length votes ≤ room
    → votes_from room place bytes ≡ read_as votes behind
unfolding votes_from
back zero place bytes [] behind are le = line_read place bytes behind too_many are
back zero place bytes (vote ∷ votes) behind are le = absurd (omega (arith, le))
back (suc room) place bytes [] behind are le =
    line_read place bytes behind (λ (f : FrameFault). then_votes (of_vote (vote_from place bytes))
    (λ r. with_front (r.0 ∷ []) (votes_from room r.1 bytes))) are
back (suc room) place bytes (vote ∷ votes) behind are le =
    let more = λ (r : ReadVote × ℕ). with_front (r.0 ∷ []) (votes_from room r.1 bytes) in
    vote_read place bytes (λ (f : FrameFault). then_votes (of_vote (vote_from place bytes)) more) are.0
    ∙ ap (λ (r : Result (ReadVote × ℕ) ReadRefusal). then_votes (of_vote r) more) are.2
    ∙ ap (with_front (vote ∷ [])) (back room are.1 bytes votes behind are.3 (omega (arith, le)))

pub report_inputs_are_votes : ReportInputsAreVotes
report_inputs_are_votes bytes votes behind =
    (votes_stand_before most_votes 0 bytes votes behind, λ are. back most_votes 0 bytes votes behind are.0 are.1)
