-- Which deliveries are accepted.
use Rattle.std.proofs.Common.{◌≡◌, ℕ, ◌+◌, ◌<◌, ◌==◌, ◌||◌, Bool, true, false, not, nat_le, Option, Some, None, refl}
use Rattle.std.proofs.{Common.{sym, ap, ◌∙◌, arith}, lemmas.Bool.{false≢true, eqb-true, eq-eqb}}
use Rattle.dir_values.specs.Rosters.{has_member}
use Rattle.vote_terms.specs.{Votes.ReadVote, Held.outranks}
use Rattle.period_terms.specs.declared.{event.Via.Via, stage.Stage.{Stage, TheVariants.{Voting, Frozen, Computed}}}
use Rattle.period_terms.specs.{declared.{stage.Stage.TheVariants.{Signed, Ended}, state.State.State}, Histories.accepts}
use Rattle.period_terms.specs.{Offers.{offer, compared_vote, is_late, most_vote_changes}, Schedules.cutoff_of}
use Rattle.period_terms.specs.States.{is_voting, vote_of}
use Rattle.headline.specs.Times.{IsDelivered, DeliveriesAreAccepted}

not_le : (n m : ℕ) → n < m → nat_le m n ≡ false
not_le n m lt = grind (arith, lt)

lt_from : (n m : ℕ) → nat_le m n ≡ false → n < m
lt_from n m e = grind (arith, e)

voting_is : (stage : Stage) → is_voting stage ≡ true → stage ≡ Voting
voting_is Voting e = refl
voting_is Frozen e = absurd (false≢true e)
voting_is Computed e = absurd (false≢true e)
voting_is Signed e = absurd (false≢true e)
voting_is Ended e = absurd (false≢true e)

in_time_by : (a b : Bool) → (not a || b) ≡ false → (a ≡ true) × (b ≡ false)
in_time_by true b e = (refl, e)
in_time_by false b e = absurd (false≢true (sym e))

-- ---- only such

only_by : (a b c : Bool) (s : State) (v : ReadVote) (via : Via) (now : ℕ) → (v.says.valid_after == s.valid_after) ≡ a
    → has_member s.roster v.says.identity ≡ b → is_late s via now ≡ c → accepts (offer s v via now).answer ≡ true
    → (a ≡ true) × (b ≡ true) × (c ≡ false)
unfolding offer
only_by false b c s v via now e f g h =
    let none : accepts (offer s v via now).answer ≡ false = rw e refl in
    absurd (false≢true (sym none ∙ h))
only_by true false c s v via now e f g h =
    let none : accepts (offer s v via now).answer ≡ false = rw (e, f) refl in
    absurd (false≢true (sym none ∙ h))
only_by true true true s v via now e f g h =
    let none : accepts (offer s v via now).answer ≡ false = rw (e, f, g) refl in
    absurd (false≢true (sym none ∙ h))
only_by true true false s v via now e f g h = (refl, refl, refl)

only_such : (s : State) (v : ReadVote) (via : Via) (now : ℕ) → accepts (offer s v via now).answer ≡ true
    → IsDelivered s v via now
only_such s v via now h =
    let r = only_by (v.says.valid_after == s.valid_after) (has_member s.roster v.says.identity) (is_late s via now)
    s v via now refl refl refl h in
    let t = in_time_by (is_voting s.stage) (nat_le (cutoff_of via s.schedule s.valid_after) now) r.2 in
    record {
      period = eqb-true v.says.valid_after s.valid_after r.0;
      member = r.1;
      voting = voting_is s.stage t.0;
      early = lt_from now (cutoff_of via s.schedule s.valid_after) t.1;
    }

-- ---- each such

taken_of : (b c : Bool) (s : State) (v held : ReadVote) → nat_le most_vote_changes s.vote_changes ≡ false
    → outranks held v ≡ b → outranks v held ≡ c → accepts (compared_vote s v (Some held)).answer ≡ true
taken_of true c s v held room e f = rw e refl
taken_of false true s v held room e f = rw (e, f, room) refl
taken_of false false s v held room e f = rw (e, f) refl

taken_by : (held : Option ReadVote) (s : State) (v : ReadVote) → nat_le most_vote_changes s.vote_changes ≡ false
    → accepts (compared_vote s v held).answer ≡ true
taken_by None s v room = rw room refl
taken_by (Some held) s v room = taken_of (outranks held v) (outranks v held) s v held room refl refl

each_such : (s : State) (v : ReadVote) (via : Via) (now : ℕ) → IsDelivered s v via now
    → s.vote_changes < most_vote_changes → accepts (offer s v via now).answer ≡ true
unfolding offer
each_such s v via now d room =
    let early : is_late s via now ≡ false =
    rw (ap is_voting d.voting, not_le now (cutoff_of via s.schedule s.valid_after) d.early) refl in
    rw (eq-eqb v.says.valid_after s.valid_after d.period, d.member, early)
    (taken_by (vote_of s.votes v.says.identity) s v (not_le s.vote_changes most_vote_changes room))

pub deliveries : DeliveriesAreAccepted
deliveries s v via now = record { only = only_such s v via now; each = each_such s v via now }
