-- What comes one after the other.
use Rattle.std.proofs.Common.{◌≡◌, ℕ, ◌+◌, List, [], ◌∷◌, ◌++◌, length, drop, refl, ap, subst, ◌∙◌, append_assoc, arith}
use Rattle.std.proofs.lemmas.List.{append-nil}
use Rattle.key_port.specs.Answers.{Relation, Rules}
use Rattle.vote_terms.specs.{Votes.ReadVote, Acceptable.IsVerified}
use Rattle.period_terms.specs.declared.answer.{Answer.Answer, Offer.Offer, Advance.Advance, SignIn.SignIn}
use Rattle.period_terms.specs.declared.event.{Event.TheVariants.{Offered, Advanced, SignedIn}, Via.Via}
use Rattle.period_terms.specs.{declared.{signature.OfferedSignature.OfferedSignature, state.State.State}, Steps.step}
use Rattle.period_terms.specs.declared.answer.Answer.TheVariants as kinds
use Rattle.period_terms.specs.Offers as offers
use Rattle.period_terms.specs.SignIns as sign_ins
use Rattle.period_laws.specs.Checked.{IsAcceptedAs}
use Rattle.period_core.specs.Signing.{Advances}
use Rattle.period_world.specs.declared.coming.Coming.TheVariants as variants
use Rattle.period_world.specs.Calls.{Arrival, TakesOne, TakesAll}

-- ---- one thing that comes

pub takes_vote : (may_give : Relation) (rules : Rules) (old new : State) (one : Arrival) (vote : ReadVote) (via : Via)
    (now : ℕ) (answer : Offer) → one ≡ variants.Vote vote via now → IsVerified rules vote
    → answer ≡ (offers.offer old vote via now).answer
    → new ≡ (offers.offer old vote via now).after → TakesOne may_give rules old one (kinds.Vote answer) new
takes_vote may_give rules old new one vote via now answer is verified answered after = rw is (record {
  event = Offered vote via now;
  is = refl;
  checked = verified;
  answered = ap kinds.Vote answered;
  after = after;
})

pub takes_moment : (may_give : Relation) (rules : Rules) (old new : State) (one : Arrival) (now : ℕ) (answer : Advance)
    → one ≡ variants.Moment now → Advances may_give rules old now answer new
    → TakesOne may_give rules old one (kinds.Moment answer) new
takes_moment may_give rules old new one now answer is advances = rw is (record {
  event = Advanced now advances.given;
  is = (advances.given, refl);
  checked = advances.may;
  answered = ap kinds.Moment advances.comes.0;
  after = advances.comes.1;
})

pub takes_signature : (may_give : Relation) (rules : Rules) (old new : State) (one : Arrival)
    (signature : OfferedSignature) (answer : SignIn) → one ≡ variants.Signature signature
    → IsAcceptedAs rules signature
    → answer ≡ (sign_ins.sign_in old signature).answer → new ≡ (sign_ins.sign_in old signature).after
    → TakesOne may_give rules old one (kinds.Signature answer) new
takes_signature may_give rules old new one signature answer is accepted answered after = rw is (record {
  event = SignedIn signature;
  is = refl;
  checked = accepted;
  answered = ap kinds.Signature answered;
  after = after;
})

-- ---- a list of what comes

-- the first is an event more, from whose state the others go on
takes_first : (may_give : Relation) (rules : Rules) (old middle new : State) (one : Arrival) (answer : Answer)
    (rest : List Arrival) (answers : List Answer) → TakesOne may_give rules old one answer middle
    → TakesAll may_give rules middle rest answers new
    → TakesAll may_give rules old (one ∷ rest) (answer ∷ answers) new
takes_first may_give rules old middle new one answer rest answers first others =
    let all : TakesAll may_give rules (step old first.event).after rest answers new =
    subst (λ (state : State). TakesAll may_give rules state rest answers new) first.after others in
    record {
      events = first.event ∷ all.events;
      are = (first.is, all.are);
      checked = (first.checked, all.checked);
      answered = ap (λ (x : Answer). x ∷ answers) first.answered
          ∙ ap (λ (xs : List Answer). (step old first.event).answer ∷ xs) all.answered;
      after = all.after;
    }

-- What is left of a list and what was taken are all of it: however the rest is taken, so is the whole.
abbrev pub GoesOn : Relation → Rules → State → List Arrival → State → List Arrival → List Answer → Type 0
GoesOn may_give rules start coming state left answers = (more : List Answer) (end : State)
    → TakesAll may_give rules state left more end → TakesAll may_give rules start coming (answers ++ more) end

pub one_more_arrival_taken : (may_give : Relation) (rules : Rules) (start old new : State) (coming left rest : List Arrival)
    (one : Arrival) (answer : Answer) (answers others : List Answer)
    → GoesOn may_give rules start coming old left answers → left ≡ one ∷ rest
    → TakesOne may_give rules old one answer new → others ≡ answers ++ answer ∷ []
    → GoesOn may_give rules start coming new rest others
one_more_arrival_taken may_give rules start old new coming left rest one answer answers others before is first added =
    λ (more : List Answer) (end : State) (all : TakesAll may_give rules new rest more end).
    let whole : TakesAll may_give rules start coming (answers ++ (answer ∷ more)) end =
    before (answer ∷ more) end (rw is (takes_first may_give rules old new end one answer rest more first all))
    in rw (added, append_assoc) whole

-- a list of which nothing is left
none_left : (left rest : List Arrival) → left ≡ rest → rest ≡ drop 1 left → left ≡ []
none_left [] rest same less = refl
none_left (one ∷ left) rest same less =
    let long : length (one ∷ left) ≡ length left = ap length (same ∙ less) in absurd (omega arith)

pub all_taken : (may_give : Relation) (rules : Rules) (start state : State) (coming left rest : List Arrival)
    (answers : List Answer) → GoesOn may_give rules start coming state left answers → left ≡ rest → rest ≡ drop 1 left
    → TakesAll may_give rules start coming answers state
all_taken may_give rules start state coming left rest answers before same less =
    let nothing : TakesAll may_give rules state left [] state =
    rw (none_left left rest same less)
    (record { events = []; are = tt; checked = tt; answered = refl; after = refl }) in
    subst (λ (xs : List Answer). TakesAll may_give rules start coming xs state) (append-nil answers)
    (before [] state nothing)
