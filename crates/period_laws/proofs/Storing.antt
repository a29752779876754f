-- What is stored of a history.
use Rattle.std.proofs.Common.{◌≡◌, false, cond, List, [], ◌∷◌, ◌++◌, refl, sym, ap, ◌∙◌, subst}
use Rattle.std.proofs.lemmas.Bool.{false≢true}
use Rattle.vote_terms.specs.Votes.{ReadVote}
use Rattle.consensus_terms.specs.declared.flavour.Flavour.{Flavour, TheVariants.{Ns, Microdesc}}
use Rattle.consensus_terms.specs.declared.signature.SignatureLine.{SignatureLine}
use Rattle.period_terms.specs.declared.{answer.{Advance.Advance, Offer.Offer, SignIn.SignIn}, change.Change.Change}
use Rattle.period_terms.specs.declared.event.Event.{Event, TheVariants.{Offered, Advanced, SignedIn, Read}}
use Rattle.period_terms.specs.declared.{event.Signing.Signing, signature.OfferedSignature.OfferedSignature}
use Rattle.period_terms.specs.{declared.state.State.State, States.Outcome, Offers.offer, Advances.advance}
use Rattle.period_terms.specs.{SignIns.{sign_in, line_of, with_line}, Steps.{step, moment_changes}, Histories.run}
use Rattle.period_terms.specs.declared.answer.Advance.TheVariants as moments
use Rattle.period_laws.specs.ShortForms.{moment_form, vote_form, signature_form, begins_next, forms_after, forms_with}
use Rattle.period_laws.{specs.ShortForms.{FormsAreStored, BaseIsLastBegin}, proofs.Rows.{Offering, Advancing}}
use Rattle.period_laws.proofs.Rows.{SigningIn, offering, advancing, signing_in, refused, had, kept, stays, freezes}
use Rattle.period_laws.proofs.Rows.{computes, gives_up, passes_over, signs, publishes, misses, begins, refuses, keeps}

nil_end : (l : List Change) → l ++ [] ≡ l
nil_end [] = refl
nil_end (c ∷ l) = ap (λ (m : List Change). c ∷ m) (nil_end l)

-- ---- what is stored

of_vote : (s : State) (v : ReadVote) (o : Outcome Offer) → Offering s v o → o.after.changes ≡ s.changes ++ vote_form v
    o.answer
of_vote s v o row =
    let P : Outcome Offer → Type 0 = λ x. x.after.changes ≡ s.changes ++ vote_form v x.answer in
    elim row [
      | refused answer e q a ↦ subst P (sym e) (rw q (sym (nil_end s.changes)))
      | had answer h p m f n e q a ↦ subst P (sym e) (rw q (sym (nil_end s.changes)))
      | kept answer p m voting few beats e q a ↦ subst P (sym e) (rw q refl)
    ]

abbrev Stores : State → Outcome Advance → Type 0
Stores s o = o.after.changes ≡ cond (begins_next o.answer) [] (s.changes ++ moment_form s o.answer)

quiet : (s : State) (answer : Advance) → moment_changes answer ≡ false → s.changes ≡ cond (begins_next answer) []
    (s.changes ++ moment_form s answer)
quiet s moments.Nothing e = sym (nil_end s.changes)
quiet s moments.Frozen e = absurd (false≢true (sym e))
quiet s moments.Computed e = absurd (false≢true (sym e))
quiet s (moments.NoConsensus held roster) e = absurd (false≢true (sym e))
quiet s moments.NoOwnVote e = absurd (false≢true (sym e))
quiet s moments.Signed e = absurd (false≢true (sym e))
quiet s (moments.Published ns microdesc) e = absurd (false≢true (sym e))
quiet s (moments.Missed ns microdesc roster) e = absurd (false≢true (sym e))
quiet s (moments.Began valid_after) e = absurd (false≢true (sym e))
quiet s moments.EndOfTime e = sym (nil_end s.changes)
quiet s moments.SignerFault e = sym (nil_end s.changes)
quiet s moments.VerifierFault e = sym (nil_end s.changes)
quiet s (moments.OwnSignatureRefused digest) e = sym (nil_end s.changes)

of_moment : (s : State) (given : Signing) (o : Outcome Advance) → Advancing s given o → Stores s o
of_moment s given o row = elim row [
  | stays answer e q ↦ subst (Stores s) (sym e) (quiet s answer q)
  | freezes at e ↦ subst (Stores s) (sym e) refl
  | computes at n e ↦ subst (Stores s) (sym e) refl
  | gives_up at e ↦ subst (Stores s) (sym e) refl
  | passes_over c at is e ↦ subst (Stores s) (sym e) refl
  | signs c vote ns microdesc at is f g e ↦ subst (Stores s) (sym e) (rw is refl)
  | publishes c at is h e ↦ subst (Stores s) (sym e) (rw is refl)
  | misses at e ↦ subst (Stores s) (sym e) refl
  | begins now next at f e ↦ subst (Stores s) (sym e) refl
]

same_changes : (flavour : Flavour) (line : SignatureLine) (s : State) → (with_line flavour line s).changes ≡ s.changes
same_changes Ns line s = refl
same_changes Microdesc line s = refl

of_signature : (s : State) (x : OfferedSignature) (o : Outcome SignIn) → SigningIn s x o → o.after.changes ≡ s.changes
    ++ signature_form s x o.answer
of_signature s x o row =
    let P : Outcome SignIn → Type 0 = λ y. y.after.changes ≡ s.changes ++ signature_form s x y.answer in
    elim row [
      | refuses answer e q ↦ subst P (sym e) (rw q (sym (nil_end s.changes)))
      | keeps c p is d key n open_it e ↦ subst P (sym e) (rw (same_changes x.flavour (line_of x) s) refl)
    ]

stores : (s : State) (event : Event) → (step s event).after.changes ≡ forms_after s event s.changes
stores s (Offered vote via now) = of_vote s vote (offer s vote via now) (offering s vote via now)
stores s (Advanced now given) = of_moment s given (advance s now given) (advancing s now given)
stores s (SignedIn signature) = of_signature s signature (sign_in s signature) (signing_in s signature)
stores s Read = refl

run_stores : (events : List Event) (s : State) (forms : List Change) → s.changes ≡ forms → (run s events).changes ≡
    forms_with forms s events
run_stores [] s forms e = e
run_stores (event ∷ events) s forms e =
    run_stores events (step s event).after (forms_after s event forms) (stores s event
    ∙ ap (λ (x : List Change). forms_after s event x) e)

pub stored : FormsAreStored
stored start events begin = run_stores events start [] (ap (λ (x : State). x.changes) begin.empty)

-- ---- the base

base_of_vote : (s : State) (v : ReadVote) (o : Outcome Offer) → Offering s v o → o.after.base ≡ s.base
base_of_vote s v o row =
    let P : Outcome Offer → Type 0 = λ x. x.after.base ≡ s.base in
    elim row [
      | refused answer e q a ↦ subst P (sym e) refl
      | had answer h p m f n e q a ↦ subst P (sym e) refl
      | kept answer p m voting few beats e q a ↦ subst P (sym e) refl
    ]

abbrev Bases : State → Outcome Advance → Type 0
Bases s o = o.after.base ≡ cond (begins_next o.answer) o.after.front s.base

quiet_base : (s : State) (answer : Advance) → moment_changes answer ≡ false → s.base ≡ cond (begins_next answer)
    s.front s.base
quiet_base s moments.Nothing e = refl
quiet_base s moments.Frozen e = refl
quiet_base s moments.Computed e = refl
quiet_base s (moments.NoConsensus held roster) e = refl
quiet_base s moments.NoOwnVote e = refl
quiet_base s moments.Signed e = refl
quiet_base s (moments.Published ns microdesc) e = refl
quiet_base s (moments.Missed ns microdesc roster) e = refl
quiet_base s (moments.Began valid_after) e = absurd (false≢true (sym e))
quiet_base s moments.EndOfTime e = refl
quiet_base s moments.SignerFault e = refl
quiet_base s moments.VerifierFault e = refl
quiet_base s (moments.OwnSignatureRefused digest) e = refl

base_of_moment : (s : State) (given : Signing) (o : Outcome Advance) → Advancing s given o → Bases s o
base_of_moment s given o row = elim row [
  | stays answer e q ↦ subst (Bases s) (sym e) (quiet_base s answer q)
  | freezes at e ↦ subst (Bases s) (sym e) refl
  | computes at n e ↦ subst (Bases s) (sym e) refl
  | gives_up at e ↦ subst (Bases s) (sym e) refl
  | passes_over c at is e ↦ subst (Bases s) (sym e) refl
  | signs c vote ns microdesc at is f g e ↦ subst (Bases s) (sym e) refl
  | publishes c at is h e ↦ subst (Bases s) (sym e) refl
  | misses at e ↦ subst (Bases s) (sym e) refl
  | begins now next at f e ↦ subst (Bases s) (sym e) refl
]

same_base : (flavour : Flavour) (line : SignatureLine) (s : State) → (with_line flavour line s).base ≡ s.base
same_base Ns line s = refl
same_base Microdesc line s = refl

base_of_signature : (s : State) (x : OfferedSignature) (o : Outcome SignIn) → SigningIn s x o → o.after.base ≡ s.base
base_of_signature s x o row =
    let P : Outcome SignIn → Type 0 = λ y. y.after.base ≡ s.base in
    elim row [
      | refuses answer e q ↦ subst P (sym e) refl
      | keeps c p is d key n open_it e ↦ subst P (sym e) (same_base x.flavour (line_of x) s)
    ]

pub base : BaseIsLastBegin
base s (Offered vote via now) = base_of_vote s vote (offer s vote via now) (offering s vote via now)
base s (Advanced now given) = base_of_moment s given (advance s now given) (advancing s now given)
base s (SignedIn signature) = base_of_signature s signature (sign_in s signature) (signing_in s signature)
base s Read = refl
