-- When there are texts.
use Rattle.std.proofs.Common.{◌≡◌, true, false, is_some, List, [], ◌∷◌, Option, Some, None, refl, sym, ap, ◌∙◌, subst}
use Rattle.std.proofs.lemmas.Bool.{false≢true}
use Rattle.vote_terms.specs.Votes.{ReadVote}
use Rattle.consensus_terms.specs.declared.{consensus.Consensus.Consensus, flavour.Flavour.{Flavour, TheVariants.Ns}}
use Rattle.consensus_terms.specs.declared.{flavour.Flavour.TheVariants.Microdesc, signature.SignatureLine.SignatureLine}
use Rattle.period_terms.specs.declared.{answer.{Advance.Advance, Offer.Offer, SignIn.SignIn}, event.Event.Event}
use Rattle.period_terms.specs.declared.event.{Event.TheVariants.{Offered, Advanced, SignedIn, Read}, Signing.Signing}
use Rattle.period_terms.specs.declared.{signature.OfferedSignature.OfferedSignature, stage.Stage.Stage}
use Rattle.period_terms.specs.{declared.{stage.Stage.TheVariants.{Signed, Ended}, state.State.State}, States.Outcome}
use Rattle.period_terms.specs.{Offers.offer, Advances.advance, SignIns.{sign_in, line_of, with_line}, Steps.step}
use Rattle.period_terms.specs.Histories.{IsStart, run}
use Rattle.period_laws.{specs.Periods.{has_texts, has_none, TextsStand}, proofs.Rows.{Offering, Advancing, SigningIn}}
use Rattle.period_laws.proofs.Rows.{offering, advancing, signing_in, refused, had, kept, stays, freezes, computes}
use Rattle.period_laws.proofs.Rows.{gives_up, passes_over, signs, publishes, misses, begins, refuses, keeps}

record Has (stage : Stage) (computed : Option Consensus) : Type 0 where
  some : has_texts stage ≡ true → is_some computed ≡ true
  none : has_none stage ≡ true → computed ≡ None

abbrev HasAt : State → Type 0
HasAt s = Has s.stage s.computed

of_vote : (s : State) (v : ReadVote) (o : Outcome Offer) → Offering s v o → HasAt s → HasAt o.after
of_vote s v o row k =
    let P : Outcome Offer → Type 0 = λ x. HasAt x.after in
    elim row [
      | refused answer e q a ↦ subst P (sym e) k
      | had answer h p m f n e q a ↦ subst P (sym e) k
      | kept answer p m voting few beats e q a ↦ subst P (sym e) k
    ]

ended : (computed : Option Consensus) → Has Ended computed
ended computed = record { some = λ h. absurd (false≢true h); none = λ h. absurd (false≢true h) }

signed : (c : Consensus) (computed : Option Consensus) → computed ≡ Some c → Has Signed computed
signed c computed is = record {
  some = λ h. ap (λ (x : Option Consensus). is_some x) is;
  none =
      λ h. absurd (false≢true h);
}

of_moment : (s : State) (given : Signing) (o : Outcome Advance) → Advancing s given o → HasAt s → HasAt o.after
of_moment s given o row k =
    let P : Outcome Advance → Type 0 = λ x. HasAt x.after in
    elim row [
      | stays answer e q ↦ subst P (sym e) k
      | freezes at e ↦ subst P (sym e) (record {
        some = λ h. absurd (false≢true h);
        none =
            λ h. k.none (ap has_none at);
      })
      | computes at n e ↦ subst P (sym e) (record { some = λ h. refl; none = λ h. absurd (false≢true h) })
      | gives_up at e ↦ subst P (sym e) (ended s.computed)
      | passes_over c at is e ↦ subst P (sym e) (signed c s.computed is)
      | signs c vote ns microdesc at is f g e ↦ subst P (sym e) (signed c s.computed is)
      | publishes c at is h e ↦ subst P (sym e) (ended s.computed)
      | misses at e ↦ subst P (sym e) (ended s.computed)
      | begins now next at f e ↦ subst P (sym e) (record { some = λ h. absurd (false≢true h); none = λ h. refl })
    ]

line_has : (flavour : Flavour) (line : SignatureLine) (s : State) → HasAt s → HasAt (with_line flavour line s)
line_has Ns line s k = k
line_has Microdesc line s k = k

of_signature : (s : State) (x : OfferedSignature) (o : Outcome SignIn) → SigningIn s x o → HasAt s → HasAt o.after
of_signature s x o row k =
    let P : Outcome SignIn → Type 0 = λ y. HasAt y.after in
    elim row [
      | refuses answer e q ↦ subst P (sym e) k
      | keeps c p is d key n open_it e ↦ subst P (sym e) (line_has x.flavour (line_of x) s k)
    ]

step_has : (s : State) (event : Event) → HasAt s → HasAt (step s event).after
step_has s (Offered vote via now) k = of_vote s vote (offer s vote via now) (offering s vote via now) k
step_has s (Advanced now given) k = of_moment s given (advance s now given) (advancing s now given) k
step_has s (SignedIn signature) k = of_signature s signature (sign_in s signature) (signing_in s signature) k
step_has s Read k = k

run_has : (events : List Event) (s : State) → HasAt s → HasAt (run s events)
run_has [] s k = k
run_has (event ∷ events) s k = run_has events (step s event).after (step_has s event k)

start_has : (start : State) → IsStart start → HasAt start
start_has start begin = subst (λ (x : State). HasAt x) (sym begin.empty) (record {
  some = λ h. absurd (false≢true h);
  none = λ h. refl;
})

pub stand : TextsStand
stand start events begin = let k = run_has events start (start_has start begin) in record {
  some = k.some;
  none =
      k.none;
}
