-- What is known of a vote whose bytes arrive.
use Rattle.std.proofs.Common.{◌≡◌, ◌∙◌, ℕ, ◌+◌, ◌-◌, ◌≤◌, ◌⊎◌, false, List, [], ◌∷◌, ◌++◌, length, take, drop}
use Rattle.std.proofs.Common.{append_assoc, Option, Some, None, Result, Ok, Err, refl, sym, ap, subst, inl, inr, arith}
use Rattle.std.proofs.lemmas.List.{append-nil, length-append, length-take-le, take-append-drop, take_all}
use Rattle.std.proofs.Math.Seq.{take-append-add}
use Rattle.item_terms.specs.{Items.{Contents, also, contents, nothing}, declared.fault.DocFault.DocFault}
use Rattle.dirdoc_grammar.specs.{declared.{cursor.Cursor.Cursor, item.Item.Item, take.Take.Take}, Cursors.IsAt}
use Rattle.dirdoc_grammar.specs.{Cursors.{behind, fed_by}, Feeding.{EndsNoEarlier, IfNotYet, Takes, left_with}}
use Rattle.dirdoc_grammar.{specs.Seen.seen_item, proofs.{Cursors.at_behind, Giving.gives_quiet}}
use Rattle.dirdoc_grammar.specs.declared.take.Take.TheVariants as take_
use Rattle.frame_terms.specs.declared.{document.Open.Open, fault.{FrameFault.FrameFault, ReadRefusal.ReadRefusal}}
use Rattle.frame_terms.specs.{declared.fault.ReadRefusal.TheVariants.Frame, Documents.{Document, document_of, finish}}
use Rattle.frame_terms.specs.{Documents.start, Refusals.of_doc}
use Rattle.frame_values.specs.declared.values.Value.{Value}
use Rattle.frame_reader.specs.Turning.{Turns}
use Rattle.vote_feed.specs.{declared.machine.Reached.Reached, SoFar.used_of, Feeding.{EndsSo, IsFaulty, IsOpen}}
use Rattle.vote_feed.specs.{Feeding.{IsWhole, end_of}, Lending.{Comes, IsKeptOf, TakesIn, VoteSoFar, VoteWaits}}
use Rattle.vote_feed.proofs.{Going.{Late, ends_late, ends_within}, LastItem.{last_item, whole_part}, Opening.not_beyond}
use Rattle.vote_feed.proofs.Opening.{open_now}
use Rattle.vote_feed.specs.declared.machine.Reached.TheVariants as reached
use Rattle.vote_frame.specs.declared.{across.Across.Across, frame.{VoteSection.VoteSection, VoteValue.VoteValue}}
use Rattle.vote_frame.specs.Tables.{vote_tables}
use Rattle.vote_terms.specs.Votes.{ReadVote, max_vote}
use Rattle.vote_doc.specs.{declared.kept.Kept.Kept, Facts.vote_in, Kept.{kept_with, none_kept}, Reading.ReadsVote}
use Rattle.vote_doc.specs.Reading.{vote_of, with_facts}
use Rattle.vote_feed.specs.declared.intake.Intake.TheVariants as intake
use Rattle.vote_feed.proofs.Going as going
use Rattle.vote_kinds.proofs.NoDocVotes.{vote_kinds_have_no_doc}
use Rattle.vote_parts.proofs.VoteEnds.{vote_ends}

abbrev Begun : Type 0
Begun = Open VoteSection (Value VoteValue)

-- ---- where votes end

end_facts : (bytes : List ℕ) (d : Result (Document VoteSection (Value VoteValue)) ReadRefusal)
    → end_of (with_facts bytes (finish kept_with none_kept d)) ≡ used_of d
end_facts bytes (Ok document) = refl
end_facts bytes (Err refusal) = refl

voted : (bytes : List ℕ)
    → end_of (vote_of bytes) ≡ used_of (document_of vote_tables (length bytes) (contents max_vote 0 nothing bytes))
voted bytes = end_facts bytes (document_of vote_tables (length bytes) (contents max_vote 0 nothing bytes))

-- the document ends so, however long the input is
abbrev Always : List ℕ → Result ℕ ReadRefusal → Type 0
Always bytes end = (n : ℕ) (more : List ℕ)
    → used_of (document_of vote_tables n (contents max_vote 0 nothing (bytes ++ more))) ≡ end

ends_so : (bytes : List ℕ) (end : Result ℕ ReadRefusal) → Always bytes end → EndsSo bytes end
ends_so bytes end always more = voted (bytes ++ more) ∙ always (length (bytes ++ more)) more

-- ---- reading on

-- bytes of which this is kept are a whole vote
pub whole_kept : (bytes : List ℕ) (kept : Kept) → IsKeptOf bytes kept → IsWhole bytes
whole_kept bytes kept is more =
    ap (λ (d : Result (Kept × ℕ) ReadRefusal). end_of (with_facts (bytes ++ more) d)) (is more)

-- the vote ends with an item
pub whole_comes : (known : ℕ) (bytes : List ℕ) (old new : Cursor) (item : Item) (x0 x1 : Across) (o0 o1 : Begun)
    (k0 k1 : Kept) (used : ℕ) (result : Result (Option ℕ) ReadRefusal) → result ≡ Ok (Some used)
    → VoteSoFar bytes old x0 o0 k0 → Late known bytes old
    → Takes (fed_by old bytes false) (take_.Item item) (fed_by new bytes false)
    → Turns kept_with vote_tables (seen_item item) x0 o0 k0 x1 o1 k1 result
    → Comes known bytes new x1 o1 k1 (Ok (reached.Whole used))
whole_comes known bytes old new item x0 x1 o0 o1 k0 k1 used result is so late takes turns =
    let turned : Turns kept_with vote_tables (seen_item item) x0 o0 k0 x1 o1 k1 (Ok (Some used)) =
    subst (λ (r : Result (Option ℕ) ReadRefusal). Turns kept_with vote_tables (seen_item item) x0 o0 k0 x1 o1 k1 r) is
    turns in
    let ends = going.ended kept_with vote_tables (seen_item item) x0 x1 o0 o1 k0 k1 used turned in
    let last = last_item vote_tables vote_ends x0 o0 (seen_item item) used ends in
    let after : item.after ≡ used = last.0 in
    let far = ends_late known bytes old new item late takes in
    let within = ends_within bytes old new item so.reads takes in
    let le : used ≤ length bytes = omega (arith, within, after) in
    let rest : Contents = left_with (fed_by new bytes false) [] in
    let parts : (contents max_vote 0 nothing bytes).items ≡ so.front ++ seen_item item ∷ rest.items =
    ap (λ (l : List ℕ). (contents max_vote 0 nothing l).items) (sym (append-nil bytes))
    ∙ ap (λ (c : Contents). c.items) (so.items [])
    ∙ ap (λ (c : Contents). so.front ++ c.items) (takes.0 [] tt) in (
      omega (arith, far, after),
      le,
      (λ more.
          whole_part kept_with none_kept k0 k1 vote_tables max_vote bytes so.front rest.items (seen_item item) x0 o0 used
          parts last so.made turned (length (take used bytes ++ more)) more
          ∙ ap (λ (n : ℕ). Ok (k1, n)) (sym (length-take-le used bytes le))),
    )

-- an item is taken
pub item_taken : (bytes : List ℕ) (old new : Cursor) (item : Item) (x0 x1 : Across) (o0 o1 : Begun) (k0 k1 : Kept)
    (result : Result (Option ℕ) ReadRefusal) → result ≡ Ok None
    → VoteSoFar bytes old x0 o0 k0 → IsAt bytes new → new.limit ≡ old.limit
    → Takes (fed_by old bytes false) (take_.Item item) (fed_by new bytes false)
    → Turns kept_with vote_tables (seen_item item) x0 o0 k0 x1 o1 k1 result → VoteSoFar bytes new x1 o1 k1
item_taken bytes old new item x0 x1 o0 o1 k0 k1 result is so at_ same takes turns =
    let turned =
    subst (λ (r : Result (Option ℕ) ReadRefusal). Turns kept_with vote_tables (seen_item item) x0 o0 k0 x1 o1 k1 r) is
    turns in
    going.item_on kept_with none_kept vote_tables max_vote bytes old new (seen_item item) x0 x1 o0 o1 k0 k1 so at_ same
    takes.0 turned

-- a fault of a line comes
pub fault_comes : (bytes : List ℕ) (old new : Cursor) (across : Across) (open_ : Begun) (kept : Kept) (fault : DocFault)
    → VoteSoFar bytes old across open_ kept
    → Takes (fed_by old bytes false) (take_.Fault fault) (fed_by new bytes false) → EndsSo bytes (Err (of_doc fault))
fault_comes bytes old new across open_ kept fault so takes =
    ends_so bytes (Err (of_doc fault))
    (going.faulty kept_with none_kept vote_tables max_vote bytes old across open_ kept fault so takes.0)

-- all that has come is read
pub all_comes : (bytes : List ℕ) (old new : Cursor) (across : Across) (open_ : Begun) (kept : Kept) (taken : Take)
    → (taken ≡ take_.NotYet) ⊎ (taken ≡ take_.End) → VoteSoFar bytes old across open_ kept → IsAt bytes new
    → new.limit ≡ old.limit
    → Takes (fed_by old bytes false) taken (fed_by new bytes false)
    → IfNotYet taken (EndsNoEarlier (length bytes) (fed_by new bytes false)) → VoteWaits bytes new across open_ kept
all_comes bytes old new across open_ kept taken (inl is) so at_ same takes later =
    going.all_read kept_with none_kept vote_tables max_vote bytes old new across open_ kept so at_ same
    (subst (λ (t : Take). Takes (fed_by old bytes false) t (fed_by new bytes false)) is takes)
    (subst (λ (t : Take). IfNotYet t (EndsNoEarlier (length bytes) (fed_by new bytes false))) is later)
all_comes bytes old new across open_ kept taken (inr is) so at_ same takes later =
    let ended = subst (λ (t : Take). Takes (fed_by old bytes false) t (fed_by new bytes false)) is takes in
    absurd (cc ended.0)

-- ---- what is known

pub is_open : (bytes : List ℕ) (cursor : Cursor) (across : Across) (open_ : Begun) (kept : Kept)
    → VoteWaits bytes cursor across open_ kept → IsOpen bytes
is_open bytes cursor across open_ kept waits end is =
    open_now kept_with none_kept vote_tables max_vote vote_kinds_have_no_doc.votes bytes cursor across open_ kept waits end
    (λ more. sym (voted (bytes ++ more)) ∙ is more)

pub is_short : (bytes : List ℕ) (cursor : Cursor) (across : Across) (open_ : Begun) (kept : Kept)
    → VoteWaits bytes cursor across open_ kept → length bytes ≤ max_vote
is_short = not_beyond kept_with none_kept vote_tables max_vote

-- of no bytes nothing is known
pub nothing_known : IsOpen []
nothing_known =
    let begin : Cursor = behind max_vote 0 in
    let at_ = at_behind max_vote 0 [] (omega arith) in
    let so =
    going.fresh kept_with none_kept vote_tables max_vote [] begin vote_tables.start (start vote_tables) none_kept refl
    refl refl refl in
    is_open [] begin vote_tables.start (start vote_tables) none_kept
    (going.all_read kept_with none_kept vote_tables max_vote [] begin begin vote_tables.start (start vote_tables)
    none_kept so at_ refl
    (gives_quiet [] begin at_ (λ open_ of. inl refl)) (λ more item rest e. omega arith))

-- what is known of some of the bytes is known of all
pub known_more : (used : ℕ) (bytes : List ℕ) (end : Result ℕ ReadRefusal) → EndsSo (take used bytes) end
    → EndsSo bytes end
known_more used bytes end is more =
    ap (λ (l : List ℕ). end_of (vote_of (l ++ more))) (sym (take-append-drop used bytes))
    ∙ ap (λ (l : List ℕ). end_of (vote_of l)) (append_assoc (take used bytes) (drop used bytes) more)
    ∙ is (drop used bytes ++ more)

-- a vote that ends there is whole with these bytes
pub whole_there : (used : ℕ) (bytes : List ℕ) → used ≤ length bytes → EndsSo (take used bytes) (Ok used)
    → IsWhole (take used bytes)
whole_there used bytes le is more =
    is more ∙ ap (λ (n : ℕ). Ok n) (sym (length-take-le used bytes le))

-- of bytes of which nothing is known, no end is
pub never_whole : (known : ℕ) (bytes : List ℕ) (cursor : Cursor) (across : Across) (open_ : Begun) (kept : Kept)
    (used : ℕ) (result : Result Reached ReadRefusal) → result ≡ Ok (reached.Whole used)
    → Comes known bytes cursor across open_ kept result → IsOpen bytes → ⊥
never_whole known bytes cursor across open_ kept used result is comes unknown =
    let here = subst (λ (r : Result Reached ReadRefusal). Comes known bytes cursor across open_ kept r) is comes in
    let end : Result ℕ ReadRefusal = Ok (length (take used bytes)) in
    unknown end (known_more used bytes end (whole_kept (take used bytes) kept here.2))

-- ---- more bytes

pub more_so_far : (bytes part all : List ℕ) (cursor : Cursor) (across : Across) (open_ : Begun) (kept : Kept)
    → all ≡ bytes ++ part → VoteWaits bytes cursor across open_ kept → VoteSoFar all cursor across open_ kept
more_so_far bytes part all cursor across open_ kept is waits =
    subst (λ (l : List ℕ). VoteSoFar l cursor across open_ kept) (sym is)
    (going.on_more kept_with none_kept vote_tables max_vote bytes part cursor across open_ kept waits.so_far)

pub more_later : (known : ℕ) (bytes part all : List ℕ) (cursor : Cursor) (across : Across) (open_ : Begun) (kept : Kept)
    → known ≡ length bytes → all ≡ bytes ++ part → VoteWaits bytes cursor across open_ kept
    → EndsNoEarlier known (fed_by cursor all false)
more_later known bytes part all cursor across open_ kept count is waits more item rest e =
    let le =
    going.later_on kept_with none_kept vote_tables max_vote bytes part cursor across open_ kept waits more item rest
    (subst (λ (l : List ℕ). left_with (fed_by cursor l false) more ≡ also (Some item) rest) is e) in
    omega (arith, count, le)

-- all of a part was taken
pub all_in : (known : ℕ) (bytes part all read : List ℕ) (cursor : Cursor) (across : Across) (open_ : Begun)
    (kept : Kept) (result : Result Reached ReadRefusal) → all ≡ bytes ++ part → read ≡ all → result ≡ Ok reached.All
    → Comes known read cursor across open_ kept result → TakesIn bytes part all cursor across open_ kept intake.All
all_in known bytes part all read cursor across open_ kept result is same given comes =
    let here = subst (λ (r : Result Reached ReadRefusal). Comes known read cursor across open_ kept r) given comes in
    let there = subst (λ (l : List ℕ). VoteWaits l cursor across open_ kept) same here in
    (is, there, is_short all cursor across open_ kept there)

-- some of a part made the vote whole
pub whole_in : (known : ℕ) (bytes part all read new : List ℕ) (cursor : Cursor) (across : Across) (open_ : Begun)
    (kept : Kept) (used : ℕ) (result : Result Reached ReadRefusal) → known ≡ length bytes
    → all ≡ bytes ++ part → read ≡ all → result ≡ Ok (reached.Whole used)
    → Comes known read cursor across open_ kept result → new ≡ take used all
    → TakesIn bytes part new cursor across open_ kept (intake.Whole (used - known))
whole_in known bytes part all read new cursor across open_ kept used result count is same given comes new_is =
    let here = subst (λ (r : Result Reached ReadRefusal). Comes known read cursor across open_ kept r) given comes in
    let far = here.0 in
    let near = here.1 in
    let size = ap length same in
    let both = ap length is in
    let used_is : used ≡ length bytes + (used - known) = omega (arith, far, count) in (
      omega (arith, near, size, both, count, length-append bytes part),
      new_is
          ∙ ap (λ (l : List ℕ). take used l) is
          ∙ ap (λ (k : ℕ). take k (bytes ++ part)) used_is
          ∙ take-append-add bytes part (used - known),
      subst (λ (l : List ℕ). IsKeptOf l kept) (sym (new_is ∙ ap (λ (l : List ℕ). take used l) (sym same))) here.2,
    )

-- nothing is both whole and faulty
pub not_both : (bytes : List ℕ) → IsWhole bytes → IsFaulty bytes → ⊥
not_both bytes whole faulty = absurd (cc (sym (whole []) ∙ faulty.refused []))

-- ---- what is read

-- the vote of which this is kept is the one that the bytes are
pub vote_kept : (taken bytes : List ℕ) (kept : Kept) (vote : ReadVote) (count : ℕ) → IsKeptOf taken kept
    → bytes ≡ taken → vote ≡ vote_in bytes kept → count ≡ length bytes → ReadsVote taken (Ok (vote, count))
vote_kept taken bytes kept vote count is same says count_is =
    let size : count ≡ length taken = count_is ∙ ap length same in
    let whole : take (length taken) taken ≡ taken = take_all (length taken) taken (omega arith) in (
      ap (λ (d : Result (Kept × ℕ) ReadRefusal). with_facts taken d)
          (ap (λ (l : List ℕ).
          finish kept_with none_kept (document_of vote_tables (length l) (contents max_vote 0 nothing l)))
          (sym (append-nil taken)) ∙ is [])
          ∙ ap (λ (l : List ℕ). Ok (vote_in l kept, length taken)) whole
          ∙ ap (λ (v : ReadVote). Ok (v, length taken)) (sym (says ∙ ap (λ (l : List ℕ). vote_in l kept) same))
          ∙ ap (λ (n : ℕ). Ok (vote, n)) (sym size),
      omega (arith, size),
    )

no_vote : (read : Result (ReadVote × ℕ) ReadRefusal) (refusal : ReadRefusal) → end_of read ≡ Err refusal
    → read ≡ Err refusal
no_vote (Ok (vote, end)) refusal e = absurd (cc e)
no_vote (Err other) refusal e = cc e

-- where bytes are refused whatever follows, they are when nothing does
pub vote_refused : (bytes : List ℕ) (fault : FrameFault) → EndsSo bytes (Err (Frame fault))
    → vote_of bytes ≡ Err (Frame fault)
vote_refused bytes fault ends =
    no_vote (vote_of bytes) (Frame fault)
    (ap (λ (l : List ℕ). end_of (vote_of l)) (sym (append-nil bytes)) ∙ ends [])
