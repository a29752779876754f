-- What is told of what comes is told of each signature that is held: once that a verifier may accept it.
use Rattle.std.proofs.Common.{◌≡◌, true, List, [], ◌∷◌, refl, sym, subst}
use Rattle.key_port.specs.Answers.{Relation, Rules}
use Rattle.key_port.specs.declared.verifier.KeyKind.TheVariants as key_kind
use Rattle.consensus_terms.specs.declared.flavour.Flavour.{Flavour, TheVariants.{Ns, Microdesc}}
use Rattle.consensus_terms.specs.declared.signature.SignatureLine.{SignatureLine}
use Rattle.period_terms.specs.declared.event.Event.{Event, TheVariants.{Offered, Advanced, SignedIn, Read}}
use Rattle.period_terms.specs.{declared.state.State.State, States.lines_of, Offers.offer, Advances.{advance, MayGiveAt}}
use Rattle.period_terms.specs.{SignIns.{sign_in, line_of}, Steps.step, Histories.{IsStart, run}}
use Rattle.period_laws.{specs.Periods.{Along, IsSignedWell, LinesAreAccepted}, proofs.Members.{In, in_from, in_to}}
use Rattle.period_laws.proofs.{Rows.{offering, advancing, signing_in}, Signers.{Telling, TellsOwn, Good, SoundAt}}
use Rattle.period_laws.proofs.Signers.{of_vote, of_moment, of_signature}

-- what is told of what comes
abbrev pub IsTold : Relation → Rules → Telling → State → Event → Type 0
IsTold may_give rules Told state (Offered vote via now) = Unit {0}
IsTold may_give rules Told state (Advanced now given) = MayGiveAt may_give rules state given
IsTold may_give rules Told state (SignedIn x) = Told x.key x.digest (line_of x)
IsTold may_give rules Told state Read = Unit {0}

-- a fact of each event gives another
pub along_weaker : (P Q : State → Event → Type 0) → ((s : State) (event : Event) → P s event → Q s event)
    → (s : State) (events : List Event) → Along P s events → Along Q s events
along_weaker P Q f s [] h = tt
along_weaker P Q f s (event ∷ events) h = (f s event h.0, along_weaker P Q f (step s event).after events h.1)

step_good : (may_give : Relation) (rules : Rules) (Told : Telling) → TellsOwn may_give rules Told → (s : State)
    (event : Event) → IsTold may_give rules Told s event → SoundAt Told s → SoundAt Told (step s event).after
step_good may_give rules Told own s (Offered vote via now) h k =
    of_vote Told s vote (offer s vote via now) (offering s vote via now) k
step_good may_give rules Told own s (Advanced now given) h k =
    of_moment may_give rules Told own s given (advance s now given) (advancing s now given) h k
step_good may_give rules Told own s (SignedIn signature) h k =
    of_signature Told s signature (sign_in s signature) (signing_in s signature) h k
step_good may_give rules Told own s Read h k = k

run_good : (events : List Event) (may_give : Relation) (rules : Rules) (Told : Telling)
    → TellsOwn may_give rules Told → (s : State) → Along (IsTold may_give rules Told) s events → SoundAt Told s
    → SoundAt Told (run s events)
run_good [] may_give rules Told own s h k = k
run_good (event ∷ events) may_give rules Told own s h k =
    run_good events may_give rules Told own (step s event).after h.1
    (step_good may_give rules Told own s event h.0 k)

start_good : (Told : Telling) (start : State) → IsStart start → SoundAt Told start
start_good Told start begin =
    subst (λ (x : State). SoundAt Told x) (sym begin.empty) (record {
      unset = λ e. refl;
      ns_lines = λ line i. absurd i;
      micro_lines = λ line i. absurd i;
    })

told_of : (flavour : Flavour) (Told : Telling) (s : State) (line : SignatureLine) → SoundAt Told s
    → In line (lines_of flavour s) → Good Told s.votes s.computed flavour line
told_of Ns Told s line k i = k.ns_lines line i
told_of Microdesc Told s line k i = k.micro_lines line i

-- of each signature that is held it is told
pub lines_are_good : (may_give : Relation) (rules : Rules) (Told : Telling) → TellsOwn may_give rules Told
    → (start : State) (events : List Event) → IsStart start → Along (IsTold may_give rules Told) start events
    → (flavour : Flavour) (line : SignatureLine) → In line (lines_of flavour (run start events))
    → Good Told (run start events).votes (run start events).computed flavour line
lines_are_good may_give rules Told own start events begin told flavour line i =
    told_of flavour Told (run start events) line
    (run_good events may_give rules Told own start told (start_good Told start begin)) i

-- it may be accepted
abbrev pub MayBe : Rules → Telling
MayBe rules key digest line = rules.may_accept key_kind.Signing key digest line.signature ≡ true

told_well : (may_give : Relation) (rules : Rules) (s : State) (event : Event) → IsSignedWell may_give rules s event
    → IsTold may_give rules (MayBe rules) s event
told_well may_give rules s (Offered vote via now) h = tt
told_well may_give rules s (Advanced now given) h = h
told_well may_give rules s (SignedIn signature) h = h
told_well may_give rules s Read h = tt

pub accepted : LinesAreAccepted
accepted may_give rules start events begin well flavour line c =
    let g = lines_are_good may_give rules (MayBe rules) (λ f a key digest bytes given. given.accepted) start events
    begin (along_weaker (IsSignedWell may_give rules) (IsTold may_give rules (MayBe rules))
    (told_well may_give rules) start events well) flavour line
    (in_from (lines_of flavour (run start events)) line c) in
    record {
      c = g.c;
      computed = g.is;
      vote = g.vote;
      holds = in_to (run start events).votes g.vote g.there;
      authority = g.same;
      accepted = g.told;
    }
