-- What one event publishes, and what of the current documents it leaves.
use Rattle.std.proofs.Common.{◌≡◌, ℕ, ◌≤◌, ◌⊎◌, nat_lt, Bool, true, false, cond, List, Some, refl, sym, ◌∙◌, subst, inl}
use Rattle.std.proofs.{Common.{inr, arith}, lemmas.Bool.{false≢true, ltb-false}}
use Rattle.vote_terms.specs.Votes.{ReadVote}
use Rattle.consensus_terms.specs.declared.{consensus.Consensus.Consensus, flavour.Flavour.{Flavour, TheVariants.Ns}}
use Rattle.consensus_terms.specs.declared.{flavour.Flavour.TheVariants.Microdesc, signature.SignatureLine.SignatureLine}
use Rattle.period_terms.specs.declared.{answer.{Advance.Advance, Offer.Offer, SignIn.SignIn}, event.Signing.Signing}
use Rattle.period_terms.specs.declared.{signature.OfferedSignature.OfferedSignature, stage.Stage.Stage}
use Rattle.period_terms.specs.declared.stage.Stage.TheVariants.{Voting, Frozen, Computed, Signed, Ended}
use Rattle.period_terms.specs.{declared.state.State.State, States.{Outcome, unchanged_outcome, is_signed, signed_text}}
use Rattle.period_terms.specs.{Advances.{advance, advance_at, with_consensus, publish, publish_these}, SignIns.line_of}
use Rattle.period_terms.specs.{SignIns.with_line, Steps.moment_changes, Readings.current_of}
use Rattle.period_terms.specs.declared.answer.Advance.TheVariants as moments
use Rattle.period_laws.{specs.Publications.{of_flavour, publishes_then}, proofs.Rows.{Offering, Advancing, SigningIn}}
use Rattle.period_laws.proofs.Rows.{refused, had, kept, stays, freezes, computes, gives_up, passes_over, signs}
use Rattle.period_laws.proofs.Rows.{publishes, misses, begins, refuses, keeps}

-- what a moment of a signed state publishes of a flavour
pub record Publishes (s : State) (flavour : Flavour) (text : List ℕ) (answer : Advance) : Type 0 where
  pub ns : Bool
  pub microdesc : Bool
  pub answered : answer ≡ moments.Published ns microdesc
  pub of_it : of_flavour flavour ns microdesc ≡ true
  pub stage : s.stage ≡ Signed
  pub c : Consensus
  pub computed : s.computed ≡ Some c
  pub text_is : text ≡ signed_text flavour s c
  pub most : is_signed flavour s ≡ true

-- what stands of a flavour after a moment was published then, or stood before
abbrev pub Stood : State → Flavour → List ℕ → Outcome Advance → Type 0
Stood s flavour text o =
    current_of flavour o.after ≡ Some text → Publishes s flavour text o.answer
    ⊎ ((publishes_then flavour o.answer ≡ false) × (current_of flavour s ≡ Some text))

-- what changes nothing publishes nothing
quiet : (flavour : Flavour) (answer : Advance) → moment_changes answer ≡ false → publishes_then flavour answer ≡ false
quiet flavour moments.Nothing e = refl
quiet flavour moments.Frozen e = refl
quiet flavour moments.Computed e = refl
quiet flavour (moments.NoConsensus held roster) e = refl
quiet flavour moments.NoOwnVote e = refl
quiet flavour moments.Signed e = refl
quiet flavour (moments.Published ns microdesc) e = absurd (false≢true (sym e))
quiet flavour (moments.Missed ns microdesc roster) e = refl
quiet flavour (moments.Began valid_after) e = refl
quiet flavour moments.EndOfTime e = refl
quiet flavour moments.SignerFault e = refl
quiet flavour moments.VerifierFault e = refl
quiet flavour (moments.OwnSignatureRefused digest) e = refl

same_some : (a b : List ℕ) → Some a ≡ Some b → a ≡ b
same_some a b e = cc

published_ns : (b : Bool) (s : State) (text : List ℕ) (c : Consensus) → is_signed Ns s ≡ b → s.stage ≡ Signed
    → s.computed ≡ Some c → cond b (Some (signed_text Ns s c)) s.ns_current ≡ Some text
    → Publishes s Ns text (moments.Published b (is_signed Microdesc s))
    ⊎ ((b ≡ false) × (s.ns_current ≡ Some text))
published_ns true s text c e at is h = inl (record {
  ns = true;
  microdesc = is_signed Microdesc s;
  answered = refl;
  of_it = refl;
  stage = at;
  c = c;
  computed = is;
  text_is = sym (same_some (signed_text Ns s c) text h);
  most = e;
})
published_ns false s text c e at is h = inr (refl, h)

published_micro : (b : Bool) (s : State) (text : List ℕ) (c : Consensus) → is_signed Microdesc s ≡ b
    → s.stage ≡ Signed → s.computed ≡ Some c → cond b (Some (signed_text Microdesc s c)) s.micro_current ≡ Some text
    → Publishes s Microdesc text (moments.Published (is_signed Ns s) b)
    ⊎ ((b ≡ false) × (s.micro_current ≡ Some text))
published_micro true s text c e at is h = inl (record {
  ns = is_signed Ns s;
  microdesc = true;
  answered = refl;
  of_it = refl;
  stage = at;
  c = c;
  computed = is;
  text_is = sym (same_some (signed_text Microdesc s c) text h);
  most = e;
})
published_micro false s text c e at is h = inr (refl, h)

published_it : (flavour : Flavour) (s : State) (text : List ℕ) (c : Consensus) → s.stage ≡ Signed
    → s.computed ≡ Some c → Stood s flavour text (publish_these s c (is_signed Ns s) (is_signed Microdesc s))
published_it Ns s text c at is h = published_ns (is_signed Ns s) s text c refl at is h
published_it Microdesc s text c at is h = published_micro (is_signed Microdesc s) s text c refl at is h

-- what stood stands, and nothing is published
as_it_was : (flavour : Flavour) (s : State) (text : List ℕ) (o : Outcome Advance)
    → current_of flavour o.after ≡ current_of flavour s → publishes_then flavour o.answer ≡ false
    → Stood s flavour text o
as_it_was flavour s text o same silent h = inr (silent, sym same ∙ h)

currents : (flavour : Flavour) (s t : State) → t.ns_current ≡ s.ns_current → t.micro_current ≡ s.micro_current
    → current_of flavour t ≡ current_of flavour s
currents Ns s t e f = e
currents Microdesc s t e f = f

pub of_moment : (flavour : Flavour) (s : State) (text : List ℕ) (given : Signing) (o : Outcome Advance)
    → Advancing s given o → Stood s flavour text o
of_moment flavour s text given o row = elim row [
  | stays answer e q ↦ subst (Stood s flavour text) (sym e)
      (as_it_was flavour s text (unchanged_outcome s answer) refl (quiet flavour answer q))
  | freezes at e ↦ subst (Stood s flavour text) (sym e)
      (as_it_was flavour s text _ (currents flavour s _ refl refl) refl)
  | computes at n e ↦ subst (Stood s flavour text) (sym e)
      (as_it_was flavour s text _ (currents flavour s _ refl refl) refl)
  | gives_up at e ↦ subst (Stood s flavour text) (sym e)
      (as_it_was flavour s text _ (currents flavour s _ refl refl) refl)
  | passes_over c at is e ↦ subst (Stood s flavour text) (sym e)
      (as_it_was flavour s text _ (currents flavour s _ refl refl) refl)
  | signs c vote ns microdesc at is f g e ↦ subst (Stood s flavour text) (sym e)
      (as_it_was flavour s text _ (currents flavour s _ refl refl) refl)
  | publishes c at is h e ↦ subst (Stood s flavour text) (sym e) (published_it flavour s text c at is)
  | misses at e ↦ subst (Stood s flavour text) (sym e)
      (as_it_was flavour s text _ (currents flavour s _ refl refl) refl)
  | begins now next at f e ↦ subst (Stood s flavour text) (sym e)
      (as_it_was flavour s text _ (currents flavour s _ refl refl) refl)
]

pub vote_leaves : (flavour : Flavour) (s : State) (v : ReadVote) (o : Outcome Offer) → Offering s v o
    → current_of flavour o.after ≡ current_of flavour s
vote_leaves flavour s v o row =
    let P : Outcome Offer → Type 0 = λ x. current_of flavour x.after ≡ current_of flavour s in
    elim row [
      | refused answer e q a ↦ subst P (sym e) refl
      | had answer h p m f n e q a ↦ subst P (sym e) refl
      | kept answer p m voting few beats e q a ↦ subst P (sym e) (currents flavour s _ refl refl)
    ]

line_leaves : (flavour over_it : Flavour) (line : SignatureLine) (s : State)
    → current_of flavour (with_line over_it line s) ≡ current_of flavour s
line_leaves flavour Ns line s = currents flavour s _ refl refl
line_leaves flavour Microdesc line s = currents flavour s _ refl refl

pub signature_leaves : (flavour : Flavour) (s : State) (x : OfferedSignature) (o : Outcome SignIn) → SigningIn s x o
    → current_of flavour o.after ≡ current_of flavour s
signature_leaves flavour s x o row =
    let P : Outcome SignIn → Type 0 = λ y. current_of flavour y.after ≡ current_of flavour s in
    elim row [
      | refuses answer e q ↦ subst P (sym e) refl
      | keeps c p is d key n open_it e ↦ subst P (sym e)
          (currents flavour (with_line x.flavour (line_of x) s) _ refl refl
          ∙ line_leaves flavour x.flavour (line_of x) s)
    ]

-- the period had begun where something is published
begun_by : (b : Bool) (s : State) (now : ℕ) (o : Outcome Advance) (ns microdesc : Bool)
    → nat_lt now s.valid_after ≡ b
    → (cond b (unchanged_outcome s moments.Nothing) o).answer ≡ moments.Published ns microdesc → s.valid_after ≤ now
begun_by true s now o ns microdesc e h = absurd cc
begun_by false s now o ns microdesc e h = omega (arith, ltb-false now s.valid_after e)

begun_at : (stage : Stage) (s : State) (now : ℕ) (given : Signing) (ns microdesc : Bool) → stage ≡ Signed
    → (advance_at stage s now given).answer ≡ moments.Published ns microdesc → s.valid_after ≤ now
begun_at Voting s now given ns microdesc at h = absurd cc
begun_at Frozen s now given ns microdesc at h = absurd cc
begun_at Computed s now given ns microdesc at h = absurd cc
begun_at Signed s now given ns microdesc at h =
    begun_by (nat_lt now s.valid_after) s now (with_consensus s (publish s) s.computed) ns microdesc refl h
begun_at Ended s now given ns microdesc at h = absurd cc

pub begun : (s : State) (now : ℕ) (given : Signing) (ns microdesc : Bool) → s.stage ≡ Signed
    → (advance s now given).answer ≡ moments.Published ns microdesc → s.valid_after ≤ now
unfolding advance
begun s now given ns microdesc at h = begun_at s.stage s now given ns microdesc at h
