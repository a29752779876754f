-- The stored changes tell the state.
use Rattle.std.proofs.Common.{◌*◌, ◌≡◌, ℕ, ◌+◌, ◌&&◌, ◌||◌, List, [], ◌∷◌, ◌++◌, Some, None, refl, sym, ◌∙◌, subst}
use Rattle.std.proofs.Common.{arith}
use Rattle.vote_terms.specs.Votes.{ReadVote}
use Rattle.consensus_terms.specs.declared.flavour.Flavour.TheVariants.{Ns, Microdesc}
use Rattle.period_terms.specs.declared.{answer.{Advance.Advance, Offer.Offer, SignIn.SignIn}, event.Event.Event}
use Rattle.period_terms.specs.declared.event.{Event.TheVariants.{Offered, Advanced, SignedIn, Read}, Signing.Signing}
use Rattle.period_terms.specs.declared.{signature.OfferedSignature.OfferedSignature, stage.Stage.TheVariants.Frozen}
use Rattle.period_terms.specs.declared.{stage.Stage.TheVariants.{Computed, Signed, Ended}, state.State.State}
use Rattle.period_terms.specs.{States.{Outcome, consensus_of, is_signed, both_digests, change}, Offers.offer}
use Rattle.period_terms.specs.{Advances.{advance, published_digests}, SignIns.sign_in, Steps.step, Histories.IsStart}
use Rattle.period_terms.{specs.Histories.run, proofs.Telling.{TellsAt, to_parts, from_parts, plain}}
use Rattle.period_terms.proofs.{TellingVotes.vote_tells, TellingSigners.{sign_tells, signature_tells}}
use Rattle.period_terms.specs.declared.change.ChangeKind.TheVariants as kind
use Rattle.period_laws.{specs.KeptLaws.{StepsKeepIt, ChangesTell}, proofs.Rows.{Offering, Advancing, SigningIn}}
use Rattle.period_laws.proofs.Rows.{offering, advancing, signing_in, refused, had, kept, stays, freezes, computes}
use Rattle.period_laws.proofs.Rows.{gives_up, passes_over, signs, publishes, misses, begins, refuses, keeps}

-- ---- the rows

of_vote : (s : State) (v : ReadVote) (o : Outcome Offer) → Offering s v o → TellsAt s → TellsAt o.after
of_vote s v o row k =
    let P : Outcome Offer → Type 0 = λ x. TellsAt x.after in
    elim row [
      | refused answer e q a ↦ subst P (sym e) k
      | had answer h p m f n e q a ↦ subst P (sym e) k
      | kept answer p m voting few beats e q a ↦ subst P (sym e) (vote_tells s v beats k)
    ]

of_moment : (s : State) (given : Signing) (o : Outcome Advance) → Advancing s given o → TellsAt s → TellsAt o.after
of_moment s given o row k =
    let P : Outcome Advance → Type 0 = λ x. TellsAt x.after in
    elim row [
      | stays answer e q ↦ subst P (sym e) k
      | freezes at e ↦ subst P (sym e) (plain s (change kind.Freeze None s.valid_after []) Frozen refl refl refl k)
      | computes at n e ↦ subst P (sym e)
          (plain s (change kind.Compute None s.valid_after (both_digests (consensus_of s))) Computed refl refl refl k)
      | gives_up at e ↦ subst P (sym e) (plain s (change kind.NoConsensus None s.valid_after []) Ended refl refl refl k)
      | passes_over c at is e ↦ subst P (sym e) (plain s (change kind.NoOwnVote (Some s.own) s.valid_after []) Signed
          refl refl refl k)
      | signs c vote ns microdesc at is f g e ↦ subst P (sym e) (sign_tells s c vote.says.certificate.signing_key ns
          microdesc k)
      | publishes c at is h e ↦ subst P (sym e)
          (plain s (change kind.Publish None s.valid_after (published_digests (is_signed Ns s) (is_signed Microdesc s)
          c)) Ended refl refl refl k)
      | misses at e ↦ subst P (sym e) (plain s (change kind.Miss None s.valid_after []) Ended refl refl refl k)
      | begins now next at f e ↦ subst P (sym e) (record {
        ranks = λ a. refl;
        stage_is = refl;
        ns_signers = λ a. refl;
        micro_signers = λ a. refl;
        count = refl;
        front_is = plus_none (s.front + 1);
      })
    ]
  where
    plus_none : (n : ℕ) → n ≡ n + 0
    plus_none n = omega arith

of_signature : (s : State) (x : OfferedSignature) (o : Outcome SignIn) → SigningIn s x o → TellsAt s → TellsAt o.after
of_signature s x o row k =
    let P : Outcome SignIn → Type 0 = λ y. TellsAt y.after in
    elim row [
      | refuses answer e q ↦ subst P (sym e) k
      | keeps c p is d key n open_it e ↦ subst P (sym e) (signature_tells x.flavour s x c d k)
    ]

-- ---- the laws

step_tells : (s : State) (event : Event) → TellsAt s → TellsAt (step s event).after
step_tells s (Offered vote via now) k = of_vote s vote (offer s vote via now) (offering s vote via now) k
step_tells s (Advanced now given) k = of_moment s given (advance s now given) (advancing s now given) k
step_tells s (SignedIn signature) k = of_signature s signature (sign_in s signature) (signing_in s signature) k
step_tells s Read k = k

run_tells : (events : List Event) (s : State) → TellsAt s → TellsAt (run s events)
run_tells [] s k = k
run_tells (event ∷ events) s k = run_tells events (step s event).after (step_tells s event k)

start_tells : (start : State) → IsStart start → TellsAt start
start_tells start begin =
    subst (λ (x : State). TellsAt x) (sym begin.empty) (record {
      ranks = λ a. refl;
      stage_is = refl;
      ns_signers = λ a. refl;
      micro_signers = λ a. refl;
      count = refl;
      front_is = refl;
    })

pub steps_keep : StepsKeepIt
steps_keep state event k = from_parts (step state event).after (step_tells state event (to_parts state k))

pub told : ChangesTell
told start events begin = from_parts (run start events) (run_tells events start (start_tells start begin))
