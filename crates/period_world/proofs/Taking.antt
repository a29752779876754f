-- A state among others takes what comes to it as it does alone.
use Rattle.std.proofs.Common.{◌≡◌, Bool, true, false, cond, List, [], ◌∷◌, ◌++◌, Option, Some, is_some, not, refl, sym}
use Rattle.std.proofs.Common.{ap, ◌∙◌, subst, ◌&&◌}
use Rattle.dir_values.specs.{declared.digest.Fingerprint.Fingerprint, Digests.same_identity, Rosters.has_member}
use Rattle.vote_terms.proofs.Orders.{same_one}
use Rattle.key_port.specs.Answers.{Relation, Rules}
use Rattle.period_terms.specs.declared.{answer.Answer.Answer, state.State.State}
use Rattle.period_laws.specs.Worlds.{World, SignedDigest}
use Rattle.period_world.specs.{Calls.{Arrival, TakesOne, TakesAll}, WorldCalls.{Call, Happening, Called, Alone, IsCall}}
use Rattle.period_world.specs.WorldCalls.{LeadsTo, Lead, arrivals_at, answers_at, PeriodStatesTakeAll}
use Rattle.period_world.proofs.Chains.{one_more_arrival_taken}

-- a member's state is one
one_state : (s t : State) (state : Option State) → state ≡ Some s → state ≡ Some t → s ≡ t
one_state s t state e f = cc

-- what was taken first and what was taken then
first_taken : (may_give : Relation) (rules : Rules) (old middle new : State) (one : Arrival) (answer : Answer)
    (others : List Arrival) (answers : List Answer) → TakesOne may_give rules old one answer middle
    → TakesAll may_give rules middle others answers new
    → TakesAll may_give rules old (one ∷ others) (answer ∷ answers) new
first_taken may_give rules old middle new one answer others answers first then =
    one_more_arrival_taken may_give rules old old middle (one ∷ others) (one ∷ others) others one answer [] (answer ∷ [])
    (λ more end all. all) refl first refl answers new then

-- who signs alone changes no state
alone_by : (b : Bool) (world : World) (one : SignedDigest) (member : Fingerprint)
    → (cond b (record world { signed = world.signed ++ one ∷ [] }) world).states member ≡ world.states member
alone_by true world one member = refl
alone_by false world one member = refl

-- A member's state took this, answered so, and the state after it is this.
record Took (may_give : Relation) (rules : Rules) (member : Fingerprint) (old : State) (arrivals : List Arrival)
    (answers : List Answer) (end : World) : Type 0 where
  state : State
  period_state : end.states member ≡ Some state
  takes : TakesAll may_give rules old arrivals answers state

-- a call at the member's state is the first that it took, one at another is none
called_by : (b : Bool) (may_give : Relation) (rules : Rules) (world end : World) (call : Call) (s : State)
    (left : Option State) (arrivals : List Arrival) (answers : List Answer) → IsCall may_give rules world call s
    → (member : Fingerprint) (old : State) → world.states member ≡ Some old → same_identity member call.member ≡ b
    → left ≡ cond b (Some call.after) (world.states member)
    → ((t : State) → left ≡ Some t → Took may_give rules member t arrivals answers end)
    → Took may_give rules member old (cond b (call.coming ∷ []) [] ++ arrivals)
    (cond b (call.answer ∷ []) [] ++ answers) end
called_by true may_give rules world end call s left arrivals answers k member old at e is others =
    let t = others call.after is in
    let there : world.states member ≡ Some s =
    subst (λ (x : Fingerprint). world.states x ≡ Some s) (sym (same_one member call.member e)) k.period_state in
    let first : TakesOne may_give rules old call.coming call.answer call.after =
    subst (λ (x : State). TakesOne may_give rules x call.coming call.answer call.after)
    (one_state s old (world.states member) there at) k.takes in
    record {
      state = t.state;
      period_state = t.period_state;
      takes = first_taken may_give rules old call.after t.state call.coming call.answer arrivals answers first t.takes;
    }
called_by false may_give rules world end call s left arrivals answers k member old at e is others =
    others old (is ∙ at)

-- what was taken of the first and of the others
took_first : (may_give : Relation) (rules : Rules) (world end next : World) (one : Happening)
    (happenings : List Happening)
    → LeadsTo may_give rules world one next → (member : Fingerprint) (old : State)
    → world.states member ≡ Some old
    → ((t : State) → next.states member ≡ Some t → Took may_give rules member t (arrivals_at member happenings)
    (answers_at member happenings) end)
    → Took may_give rules member old (arrivals_at member (one ∷ happenings))
    (answers_at member (one ∷ happenings)) end
took_first may_give rules world end next (Called call) happenings l member old at others =
    called_by (same_identity member call.member) may_give rules world end call l.0 (next.states member)
    (arrivals_at member happenings) (answers_at member happenings) l.1 member old at refl
    (ap (λ (x : World). x.states member) l.2) others
took_first may_give rules world end next (Alone one) happenings l member old at others =
    others old (ap (λ (x : World). x.states member) l
    ∙ alone_by (has_member world.roster one.authority && not (is_some (world.states one.authority))) world one
    member ∙ at)

took_all : (happenings : List Happening) (may_give : Relation) (rules : Rules) (world end : World)
    → Lead may_give rules world happenings end → (member : Fingerprint) (old : State)
    → world.states member ≡ Some old
    → Took may_give rules member old (arrivals_at member happenings) (answers_at member happenings) end
took_all [] may_give rules world end l member old at = record {
  state = old;
  period_state = ap (λ (x : World). x.states member) l ∙ at;
  takes = record { events = []; are = tt; checked = tt; answered = refl; after = refl };
}
took_all (one ∷ happenings) may_give rules world end l member old at =
    took_first may_give rules world end l.0 one happenings l.1 member old at
    (λ (t : State) (there : l.0.states member ≡ Some t).
    took_all happenings may_give rules l.0 end l.2 member t there)

pub took : PeriodStatesTakeAll
took may_give rules world end happenings l member old at =
    let all = took_all happenings may_give rules world end l member old at in
    record { state = all.state; period_state = all.period_state; takes = all.takes }
