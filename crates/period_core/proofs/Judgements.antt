-- What is told of a vote settles its outcome.
use Rattle.std.proofs.Common.{◌≡◌, ℕ, ◌+◌, ◌==◌, ◌||◌, ◌<◌, Bool, true, false, nat_le, Option, Some, None, cond, refl}
use Rattle.std.{proofs.{Common.{sym, ap, ◌∙◌, subst}, lemmas.Bool.leb-false}, specs.Prelude.option_map}
use Rattle.dir_values.specs.Rosters.{has_member}
use Rattle.vote_terms.specs.{declared.rank.Rank.Rank, Votes.{ReadVote, rank_of}, Held.outranks}
use Rattle.period_terms.specs.{declared.{answer.Offer.Offer, event.Via.Via, state.State.State}, States.Outcome}
use Rattle.period_terms.specs.{States.{unchanged_outcome, vote_of}, Offers.{offer, kept_vote, is_late, with_vote}}
use Rattle.period_terms.specs.Offers.{most_vote_changes}
use Rattle.period_terms.specs.declared.answer.Offer.TheVariants as offers
use Rattle.period_terms.specs.Offers as offering
use Rattle.period_core.specs.{declared.judging.Judged.{Judged, TheVariants.{Refused, New, Better}}, Judging.Beats}
use Rattle.period_core.specs.Judging.{judged_rank, judged_vote, settled_vote}

keeping_by : (b : Bool) (s : State) (v : ReadVote) → nat_le most_vote_changes s.vote_changes ≡ b
    → kept_vote s v (offers.Kept (s.front + 1)) ≡ settled_vote s v (cond b (Refused offers.Full) New)
keeping_by true s v e = rw e refl
keeping_by false s v e = rw e refl

replacing_by : (b : Bool) (s : State) (v held : ReadVote) → nat_le most_vote_changes s.vote_changes ≡ b
    → kept_vote s v (offers.Replaced (s.front + 1) (rank_of held)) ≡ settled_vote s v (cond b (Refused offers.Full)
    (Better (rank_of held)))
replacing_by true s v held e = rw e refl
replacing_by false s v held e = rw e refl

beside_by : (b c : Bool) (s : State) (v held : ReadVote) → outranks held v ≡ b → outranks v held ≡ c
    → offering.compared_vote s v (Some held) ≡ settled_vote s v (judged_rank (Some (rank_of held)) (rank_of v)
    (nat_le most_vote_changes s.vote_changes))
beside_by true c s v held e f = rw e refl
beside_by false true s v held e f = rw (e, f) (replacing_by (nat_le most_vote_changes s.vote_changes) s v held refl)
beside_by false false s v held e f = rw (e, f) refl

compared_settles : (s : State) (v : ReadVote) (held : Option ReadVote)
    → offering.compared_vote s v held ≡ settled_vote s v (judged_rank (option_map rank_of held) (rank_of v)
    (nat_le most_vote_changes s.vote_changes))
compared_settles s v None = keeping_by (nat_le most_vote_changes s.vote_changes) s v refl
compared_settles s v (Some held) = beside_by (outranks held v) (outranks v held) s v held refl refl

offer_by : (a b c : Bool) (s : State) (v : ReadVote) (via : Via) (now : ℕ) → (v.says.valid_after == s.valid_after) ≡ a
    → has_member s.roster v.says.identity ≡ b → is_late s via now ≡ c → offer s v via now ≡ settled_vote s v
    (judged_vote s v via now)
unfolding offer
offer_by false b c s v via now e f g = rw e refl
offer_by true false c s v via now e f g = rw (e, f) refl
offer_by true true true s v via now e f g = rw (e, f, g) refl
offer_by true true false s v via now e f g = rw (e, f, g) (compared_settles s v (vote_of s.votes v.says.identity))

-- the outcome of a vote is that of what is told of it
pub settles : (s : State) (v : ReadVote) (via : Via) (now : ℕ) → offer s v via now ≡ settled_vote s v (judged_vote s v via now)
settles s v via now = offer_by _ _ _ s v via now refl refl refl

-- what is known of a vote that is to be held
pub record MayHold (s : State) (v : ReadVote) : Type 0 where
  pub member : has_member s.roster v.says.identity ≡ true
  pub some : s.vote_changes < most_vote_changes
  pub beats : Beats s.votes v

abbrev HoldsIf : State → ReadVote → Judged → Type 0
HoldsIf s v (Refused answer) = Unit {0}
HoldsIf s v New = MayHold s v
HoldsIf s v (Better old) = MayHold s v

same_vote : (found : Option ReadVote) (a b : ReadVote) → found ≡ Some a → found ≡ Some b → a ≡ b
same_vote found a b e f = cc

beats_found : (s : State) (v held : ReadVote) → vote_of s.votes v.says.identity ≡ Some held → outranks v held ≡ true
    → Beats s.votes v
beats_found s v held e o other f =
    subst (λ (x : ReadVote). outranks v x ≡ true) (same_vote (vote_of s.votes v.says.identity) held other e f) o

none_found : (found : Option ReadVote) (a : ReadVote) → found ≡ None → found ≡ Some a → ⊥
none_found found a e f = absurd cc

beats_none : (s : State) (v : ReadVote) → vote_of s.votes v.says.identity ≡ None → Beats s.votes v
beats_none s v e other f = absurd (none_found (vote_of s.votes v.says.identity) other e f)

compared_by : (b c f : Bool) (s : State) (v held : ReadVote) → outranks held v ≡ b → outranks v held ≡ c
    → nat_le most_vote_changes s.vote_changes ≡ f → has_member s.roster v.says.identity ≡ true
    → vote_of s.votes v.says.identity ≡ Some held
    → HoldsIf s v (judged_rank (Some (rank_of held)) (rank_of v) (nat_le most_vote_changes s.vote_changes))
compared_by true c f s v held e g h m is = rw e tt
compared_by false false f s v held e g h m is = rw (e, g) tt
compared_by false true true s v held e g h m is = rw (e, g, h) tt
compared_by false true false s v held e g h m is =
    rw (e, g, h) (record { member = m; some = leb-false _ _ h; beats = beats_found s v held is g })

compared_may : (f : Bool) (s : State) (v : ReadVote) (held : Option ReadVote) → nat_le most_vote_changes
    s.vote_changes ≡ f
    → has_member s.roster v.says.identity ≡ true → vote_of s.votes v.says.identity ≡ held
    → HoldsIf s v (judged_rank (option_map rank_of held) (rank_of v) (nat_le most_vote_changes s.vote_changes))
compared_may true s v None h m is = rw h tt
compared_may false s v None h m is = rw h (record { member = m; some = leb-false _ _ h; beats = beats_none s v is })
compared_may f s v (Some held) h m is =
    compared_by (outranks held v) (outranks v held) f s v held refl refl h m is

judged_by : (a b c : Bool) (s : State) (v : ReadVote) (via : Via) (now : ℕ) → (v.says.valid_after == s.valid_after) ≡ a
    → has_member s.roster v.says.identity ≡ b → is_late s via now ≡ c → HoldsIf s v (judged_vote s v via now)
judged_by false b c s v via now e f g = rw e tt
judged_by true false c s v via now e f g = rw (e, f) tt
judged_by true true true s v via now e f g = rw (e, f, g) tt
judged_by true true false s v via now e f g = rw (e, f, g) (compared_may (nat_le most_vote_changes s.vote_changes) s v
    (vote_of s.votes v.says.identity) refl f refl)

judged_may : (s : State) (v : ReadVote) (via : Via) (now : ℕ) → HoldsIf s v (judged_vote s v via now)
judged_may s v via now = judged_by _ _ _ s v via now refl refl refl

-- a vote that is to be held may be held
pub new_may : (s : State) (v : ReadVote) (via : Via) (now : ℕ) → judged_vote s v via now ≡ New → MayHold s v
new_may s v via now e = subst (HoldsIf s v) e (judged_may s v via now)

pub better_may : (s : State) (v : ReadVote) (via : Via) (now : ℕ) (old : Rank) → judged_vote s v via now ≡ Better old
    → MayHold s v
better_may s v via now old e = subst (HoldsIf s v) e (judged_may s v via now)

-- and so where this was told
pub new_holds : (s : State) (v : ReadVote) (via : Via) (now : ℕ) (j : Judged) → j ≡ judged_vote s v via now → j ≡ New
    → MayHold s v
new_holds s v via now j e i = new_may s v via now (sym e ∙ i)

pub better_holds : (s : State) (v : ReadVote) (via : Via) (now : ℕ) (j : Judged) (old : Rank) → j ≡ judged_vote s v via now
    → j ≡ Better old → MayHold s v
better_holds s v via now j old e i = better_may s v via now old (sym e ∙ i)

-- a vote that is refused leaves all as it was
pub refused_is : (s : State) (v : ReadVote) (via : Via) (now : ℕ) (answer : Offer) → judged_vote s v via now ≡ Refused
    answer → offer s v via now ≡ unchanged_outcome s answer
refused_is s v via now answer e = settles s v via now ∙ ap (settled_vote s v) e

-- a vote that is to be held is held
pub new_is : (s : State) (v : ReadVote) (via : Via) (now : ℕ) → judged_vote s v via now ≡ New → offer s v via now ≡ record
    { answer = offers.Kept (s.front + 1); after = with_vote v s }
new_is s v via now e = settles s v via now ∙ ap (settled_vote s v) e

pub better_is : (s : State) (v : ReadVote) (via : Via) (now : ℕ) (old : Rank) → judged_vote s v via now ≡ Better old
    → offer s v via now ≡ record { answer = offers.Replaced (s.front + 1) old; after = with_vote v s }
better_is s v via now old e = settles s v via now ∙ ap (settled_vote s v) e

-- ---- the exits

told : (s : State) (v w : ReadVote) (via : Via) (now : ℕ) (j k : Judged) → w ≡ v → j ≡ judged_vote s w via now → j ≡ k
    → judged_vote s v via now ≡ k
told s v w via now j k p e i = ap (λ x. judged_vote s x via now) (sym p) ∙ sym e ∙ i

pub refused_answer : (s : State) (v w : ReadVote) (via : Via) (now : ℕ) (j : Judged) (answer : Offer) → w ≡ v
    → j ≡ judged_vote s w via now → j ≡ Refused answer
    → answer ≡ (offer s v via now).answer
refused_answer s v w via now j answer p e i = sym (ap (λ (o : Outcome Offer). o.answer) (refused_is s v via now answer
    (told s v w via now j (Refused answer) p e i)))

pub refused_state : (s : State) (v w : ReadVote) (via : Via) (now : ℕ) (j : Judged) (answer : Offer) → w ≡ v
    → j ≡ judged_vote s w via now → j ≡ Refused answer
    → s ≡ (offer s v via now).after
refused_state s v w via now j answer p e i = sym (ap (λ (o : Outcome Offer). o.after) (refused_is s v via now answer
    (told s v w via now j (Refused answer) p e i)))

pub new_answer : (s next : State) (v w h : ReadVote) (via : Via) (now front : ℕ) (j : Judged) → w ≡ v
    → j ≡ judged_vote s w via now → j ≡ New → h ≡ v → next ≡ with_vote h s
    → front ≡ next.front → offers.Kept front ≡ (offer s v via now).answer
new_answer s next v w h via now front j p e i q n f =
    ap offers.Kept (f ∙ ap (λ (x : State). x.front) n) ∙ sym (ap (λ (o : Outcome Offer). o.answer)
    (new_is s v via now (told s v w via now j New p e i)))

pub new_state : (s next : State) (v w h : ReadVote) (via : Via) (now : ℕ) (j : Judged) → w ≡ v → j ≡ judged_vote s w via
    now → j ≡ New → h ≡ v → next ≡ with_vote h s
    → next ≡ (offer s v via now).after
new_state s next v w h via now j p e i q n =
    n ∙ ap (λ x. with_vote x s) q ∙ sym (ap (λ (o : Outcome Offer). o.after)
    (new_is s v via now (told s v w via now j New p e i)))

pub better_answer : (s next : State) (v w h : ReadVote) (via : Via) (now front : ℕ) (j : Judged) (old : Rank) → w ≡ v
    → j ≡ judged_vote s w via now → j ≡ Better old → h ≡ v → next ≡ with_vote h s
    → front ≡ next.front → offers.Replaced front old ≡ (offer s v via now).answer
better_answer s next v w h via now front j old p e i q n f =
    ap (λ x. offers.Replaced x old) (f ∙ ap (λ (x : State). x.front) n) ∙ sym (ap (λ (o : Outcome Offer). o.answer)
    (better_is s v via now old (told s v w via now j (Better old) p e i)))

pub better_state : (s next : State) (v w h : ReadVote) (via : Via) (now : ℕ) (j : Judged) (old : Rank) → w ≡ v
    → j ≡ judged_vote s w via now → j ≡ Better old → h ≡ v → next ≡ with_vote h s
    → next ≡ (offer s v via now).after
better_state s next v w h via now j old p e i q n =
    n ∙ ap (λ x. with_vote x s) q ∙ sym (ap (λ (o : Outcome Offer). o.after)
    (better_is s v via now old (told s v w via now j (Better old) p e i)))
