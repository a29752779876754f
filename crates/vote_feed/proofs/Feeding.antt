-- What a feeder knows of the bytes that it takes.
use Rattle.std.proofs.Common.{◌≡◌, ◌∙◌, ℕ, ◌+◌, ◌-◌, ◌≤◌, ◌⊎◌, List, [], ◌++◌, length, take, drop, Option, Some, None}
use Rattle.std.proofs.{Common.{Ok, Err, refl, sym, ap, subst, inl, inr, arith}, lemmas.List.{append-nil, length-append}}
use Rattle.std.{proofs.lemmas.List.{length-take, take_all, take-append-drop, take-append-le}, specs.Prelude.min}
use Rattle.dirdoc_grammar.specs.declared.cursor.Cursor.{Cursor}
use Rattle.item_feeder.specs.Feeders.{KeepsWithin}
use Rattle.frame_terms.specs.declared.{document.Open.Open, fault.{FrameFault.FrameFault, ReadRefusal.TheVariants.Frame}}
use Rattle.frame_values.specs.declared.values.Value.{Value}
use Rattle.vote_frame.specs.declared.{across.Across.Across, frame.{VoteSection.VoteSection, VoteValue.VoteValue}}
use Rattle.vote_doc.specs.declared.kept.Kept.{Kept}
use Rattle.vote_terms.specs.Votes.{max_vote}
use Rattle.vote_feed.specs.declared.{blanks.Blank.Blank, fed.Fed.Fed, feeder.State.State, intake.Intake.Intake}
use Rattle.vote_feed.specs.{Blanks.blank_of, Feeding.{EndsSo, Feeds, IsFaulty, IsOpen, IsWhole}, Lending.IsKeptOf}
use Rattle.vote_feed.specs.Lending.{IsKnown, Keeps, Knows, TakesIn, VoteWaits, count_of, fed_of, state_of, taken_of}
use Rattle.vote_feed.proofs.Votes.{is_open, not_both, nothing_known, whole_kept}
use Rattle.vote_feed.specs.declared.fed.Fed.TheVariants as fed
use Rattle.vote_feed.specs.declared.feeder.State.TheVariants as state
use Rattle.vote_feed.specs.declared.intake.Intake.TheVariants as intake

abbrev Begun : Type 0
Begun = Open VoteSection (Value VoteValue)

-- ---- before a piece

-- no byte stands beside the others where the vote is not known
pub none_beside : (now : State) (bytes : List ℕ) (beside : Option ℕ) (cursor : Cursor) (across : Across) (open_ : Begun)
    (kept : Kept) → Knows now bytes beside cursor across open_ kept → IsOpen (taken_of bytes beside) → beside ≡ None
none_beside state.Going bytes beside cursor across open_ kept knows unknown = knows.0
none_beside state.Anew bytes beside cursor across open_ kept knows unknown = knows.0
none_beside state.Whole bytes beside cursor across open_ kept knows unknown =
    absurd (unknown (Ok _) (whole_kept (taken_of bytes beside) kept knows))
none_beside (state.Fault fault) bytes beside cursor across open_ kept knows unknown =
    absurd (unknown (Err (Frame fault)) knows)

pub all_kept : (bytes : List ℕ) (beside : Option ℕ) → beside ≡ None → taken_of bytes beside ≡ bytes
all_kept bytes beside none = ap (λ (b : Option ℕ). taken_of bytes b) none ∙ append-nil bytes

pub kept_within : (bytes : List ℕ) (beside : Option ℕ) → KeepsWithin max_vote bytes beside → length bytes ≤ max_vote
kept_within bytes None h = h
kept_within bytes (Some b) h = omega (arith, h)

-- what is known already
pub known_by : (now : State) (bytes : List ℕ) (beside : Option ℕ) (cursor : Cursor) (across : Across) (open_ : Begun)
    (kept : Kept) → Knows now bytes beside cursor across open_ kept → (now ≡ state.Going) ⊎ (now ≡ state.Anew)
    → IsOpen (taken_of bytes beside)
known_by now bytes beside cursor across open_ kept knows (inl going) =
    let there = subst (λ (s : State). Knows s bytes beside cursor across open_ kept) going knows in
    subst (λ (l : List ℕ). IsOpen l) (sym (all_kept bytes beside there.0))
    (is_open bytes cursor across open_ kept there.1)
known_by now bytes beside cursor across open_ kept knows (inr anew) =
    (subst (λ (s : State). Knows s bytes beside cursor across open_ kept) anew knows).1

pub known_whole : (now : State) (bytes : List ℕ) (beside : Option ℕ) (cursor : Cursor) (across : Across) (open_ : Begun)
    (kept : Kept) → Knows now bytes beside cursor across open_ kept → now ≡ state.Whole
    → IsKeptOf (taken_of bytes beside) kept
known_whole now bytes beside cursor across open_ kept knows whole =
    subst (λ (s : State). Knows s bytes beside cursor across open_ kept) whole knows

pub known_faulty : (now : State) (bytes : List ℕ) (beside : Option ℕ) (cursor : Cursor) (across : Across)
    (open_ : Begun) (kept : Kept) (fault : FrameFault) → Knows now bytes beside cursor across open_ kept
    → now ≡ state.Fault fault → EndsSo (taken_of bytes beside) (Err (Frame fault))
known_faulty now bytes beside cursor across open_ kept fault knows faulty =
    subst (λ (s : State). Knows s bytes beside cursor across open_ kept) faulty knows

-- of the bytes that are kept nothing is known either
pub kept_open : (now : State) (bytes was : List ℕ) (beside : Option ℕ) (cursor : Cursor) (across : Across)
    (open_ : Begun) (kept : Kept) → Knows now bytes beside cursor across open_ kept → taken_of bytes beside ≡ was
    → IsOpen was → IsOpen bytes
kept_open now bytes was beside cursor across open_ kept knows same unknown =
    let there = subst (λ (l : List ℕ). IsOpen l) (sym same) unknown in
    subst (λ (l : List ℕ). IsOpen l)
    (all_kept bytes beside (none_beside now bytes beside cursor across open_ kept knows there)) there

-- where a piece was not taken, the bytes are to be read anew
pub kept_anew : (now : State) (bytes same : List ℕ) (beside : Option ℕ) (blank : Blank) (old new : Cursor)
    (x0 x1 : Across) (o0 o1 : Begun) (k0 k1 : Kept) → Keeps bytes beside blank now old x0 o0 k0
    → IsOpen (taken_of bytes beside) → same ≡ bytes → Keeps same beside blank state.Anew new x1 o1 k1
kept_anew now bytes same beside blank old new x0 x1 o0 o1 k0 k1 keeps unknown is =
    subst (λ (l : List ℕ). Keeps l beside blank state.Anew new x1 o1 k1) (sym is)
    (record {
      within = keeps.within;
      blanks = keeps.blanks;
      knows = (none_beside now bytes beside old x0 o0 k0 keeps.knows unknown, unknown);
    })

-- where nothing was taken
pub nothing_kept : (bytes : List ℕ) (blank : Blank) (cursor : Cursor) (across : Across) (open_ : Begun) (kept : Kept)
    → bytes ≡ [] → blank ≡ blank_of [] → Keeps bytes None blank state.Anew cursor across open_ kept
nothing_kept bytes blank cursor across open_ kept is none =
    subst (λ (l : List ℕ). Keeps l None blank state.Anew cursor across open_ kept) (sym is)
    (record { within = omega arith; blanks = none; knows = (refl, nothing_known) })

-- ---- behind a piece

-- what is known then
pub knows_then : (given : Intake) (old part all bytes : List ℕ) (beside : Option ℕ) (cursor : Cursor) (across : Across)
    (open_ : Begun) (kept : Kept) → TakesIn old part all cursor across open_ kept given → taken_of bytes beside ≡ all
    → (length all ≤ max_vote → beside ≡ None) → Knows (state_of given) bytes beside cursor across open_ kept
knows_then intake.All old part all bytes beside cursor across open_ kept takes same few =
    let none = few takes.2 in
    (none, subst (λ (l : List ℕ). VoteWaits l cursor across open_ kept) (sym same ∙ all_kept bytes beside none) takes.1)
knows_then (intake.Whole taken) old part all bytes beside cursor across open_ kept takes same few =
    subst (λ (l : List ℕ). IsKeptOf l kept) (sym same) takes.2
knows_then (intake.Fault taken fault) old part all bytes beside cursor across open_ kept takes same few =
    subst (λ (l : List ℕ). EndsSo l (Err (Frame fault))) (sym same) takes.2

all_then : (given : Intake) (old part all : List ℕ) (cursor : Cursor) (across : Across) (open_ : Begun) (kept : Kept)
    → TakesIn old part all cursor across open_ kept given → all ≡ old ++ take (count_of (length part) given) part
all_then intake.All old part all cursor across open_ kept takes =
    takes.0 ∙ ap (λ (l : List ℕ). old ++ l) (sym (take_all (length part) part (omega arith)))
all_then (intake.Whole taken) old part all cursor across open_ kept takes = takes.1
all_then (intake.Fault taken fault) old part all cursor across open_ kept takes = takes.1

pub few_then : (given : Intake) (old part all : List ℕ) (cursor : Cursor) (across : Across) (open_ : Begun)
    (kept : Kept) → TakesIn old part all cursor across open_ kept given → length old + length part ≤ max_vote + 1
    → length all ≤ max_vote + 1
few_then given old part all cursor across open_ kept takes fits =
    let e = ap length (all_then given old part all cursor across open_ kept takes) in
    omega (
      arith,
      fits,
      e,
      length-append old (take (count_of (length part) given) part),
      length-take (count_of (length part) given) part,
    )

-- which blank lines they are
pub blanks_then : (given : Intake) (old part all : List ℕ) (before now : Blank) (cursor : Cursor) (across : Across)
    (open_ : Begun) (kept : Kept) → TakesIn old part all cursor across open_ kept given → before ≡ blank_of old
    → ((front : List ℕ) → before ≡ blank_of front
    → now ≡ blank_of (front ++ take (count_of (length part) given) part))
    → now ≡ blank_of all
blanks_then given old part all before now cursor across open_ kept takes was is =
    is old was
    ∙ ap (λ (l : List ℕ). blank_of l) (sym (all_then given old part all cursor across open_ kept takes))

-- so much of the piece was taken
front_of : (taken room : ℕ) (piece : List ℕ) → taken ≤ length (take room piece)
    → (taken ≤ length piece) × (take taken (take room piece) ≡ take taken piece)
front_of taken room piece le =
    let fits : taken ≤ min room (length piece) = omega (arith, le, length-take room piece) in (
      omega (arith, fits),
      sym (take-append-le taken (take room piece) (drop room piece) le)
          ∙ ap (λ (l : List ℕ). take taken l) (take-append-drop room piece),
    )

-- where no byte is too many, it was all of it
all_of_it : (limit room : ℕ) (old piece all : List ℕ) → room ≡ limit + 1 - length old → all ≡ old ++ take room piece
    → length all ≤ limit → length old ≤ limit → length piece ≤ room
all_of_it limit room old piece all room_is all_is short fits =
    let e = ap length all_is in
    omega (arith, room_is, e, short, fits, length-append old (take room piece), length-take room piece)

-- what fits beside the bytes
pub fits_room : (limit : ℕ) (old piece part : List ℕ) (count : ℕ) → count ≡ length old
    → part ≡ take (limit + 1 - count) piece → length old ≤ limit → length old + length part ≤ limit + 1
fits_room limit old piece part count count_is is le =
    let size = ap length is in
    omega (arith, count_is, size, le, length-take (limit + 1 - count) piece)

pub feeds_then : (given : Intake) (old piece all : List ℕ) (cursor : Cursor) (across : Across) (open_ : Begun)
    (kept : Kept) → TakesIn old (take (max_vote + 1 - length old) piece) all cursor across open_ kept given
    → length old ≤ max_vote → Feeds old piece all (fed_of given)
feeds_then intake.All old piece all cursor across open_ kept takes fits =
    let short = takes.2 in
    let le = all_of_it max_vote (max_vote + 1 - length old) old piece all refl takes.0 short fits in (
      takes.0 ∙ ap (λ (l : List ℕ). old ++ l) (take_all (max_vote + 1 - length old) piece le),
      is_open all cursor across open_ kept takes.1,
    )
feeds_then (intake.Whole taken) old piece all cursor across open_ kept takes fits =
    let front = front_of taken (max_vote + 1 - length old) piece takes.0 in
    (front.0, takes.1 ∙ ap (λ (l : List ℕ). old ++ l) front.1, whole_kept all kept takes.2)
feeds_then (intake.Fault taken fault) old piece all cursor across open_ kept takes fits =
    let front = front_of taken (max_vote + 1 - length old) piece takes.0 in
    (front.0, takes.1 ∙ ap (λ (l : List ℕ). old ++ l) front.1, record { fault = fault; refused = takes.2 })

pub feeds_view : (given : Intake) (old was piece part all now : List ℕ) (cursor : Cursor) (across : Across)
    (open_ : Begun) (kept : Kept) → TakesIn old part all cursor across open_ kept given
    → part ≡ take (max_vote + 1 - length old) piece → length old ≤ max_vote → old ≡ was → all ≡ now
    → Feeds was piece now (fed_of given)
feeds_view given old was piece part all now cursor across open_ kept takes part_is fits old_is all_is =
    subst (λ (l : List ℕ). Feeds l piece now (fed_of given)) old_is
    (subst (λ (l : List ℕ). Feeds old piece l (fed_of given)) all_is
    (feeds_then given old piece all cursor across open_ kept
    (subst (λ (l : List ℕ). TakesIn old l all cursor across open_ kept given) part_is takes) fits))

-- what is kept then
pub kept_then : (given : Intake) (old part all bytes : List ℕ) (beside : Option ℕ) (before blank : Blank) (now : State)
    (cursor : Cursor) (across : Across) (open_ : Begun) (kept : Kept)
    → TakesIn old part all cursor across open_ kept given → taken_of bytes beside ≡ all
    → KeepsWithin max_vote bytes beside → (length all ≤ max_vote → beside ≡ None)
    → before ≡ blank_of old
    → ((front : List ℕ) → before ≡ blank_of front
    → blank ≡ blank_of (front ++ take (count_of (length part) given) part))
    → now ≡ state_of given
    → Keeps bytes beside blank now cursor across open_ kept
kept_then given old part all bytes beside before blank now cursor across open_ kept takes same within few was is
    now_is =
    record {
      within = within;
      blanks =
          blanks_then given old part all before blank cursor across open_ kept takes was is
          ∙ ap (λ (l : List ℕ). blank_of l) (sym same);
      knows =
          subst (λ (s : State). Knows s bytes beside cursor across open_ kept) (sym now_is)
          (knows_then given old part all bytes beside cursor across open_ kept takes same few);
    }

-- ---- what is told again

pub tells_whole : (given : Fed) (bytes : List ℕ) → IsKnown bytes (Some given) → IsWhole bytes → given ≡ fed.Whole 0
tells_whole fed.All bytes known whole = absurd known
tells_whole (fed.Whole taken) bytes known whole = ap (λ (n : ℕ). fed.Whole n) known.0
tells_whole (fed.Fault taken) bytes known whole = absurd (not_both bytes whole known.1)

pub tells_faulty : (given : Fed) (bytes : List ℕ) → IsKnown bytes (Some given) → IsFaulty bytes → given ≡ fed.Fault 0
tells_faulty fed.All bytes known faulty = absurd known
tells_faulty (fed.Whole taken) bytes known faulty = absurd (not_both bytes known.1 faulty)
tells_faulty (fed.Fault taken) bytes known faulty = ap (λ (n : ℕ). fed.Fault n) known.0
