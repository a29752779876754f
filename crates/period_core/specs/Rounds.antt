-- What each stage of a period comes to.
use Rattle.std.specs.Prelude.{ℕ, List, Bool, Option, Some, None, length, if◌then◌else◌}
use Rattle.consensus_terms.specs.{declared.signature.SignatureLine.SignatureLine, Signed.signed}
use Rattle.count_terms.specs.Counts.{over}
use Rattle.period_terms.specs.declared.{answer.Advance.Advance, stage.Stage.TheVariants.{Signed, Ended}}
use Rattle.period_terms.specs.{declared.state.State.State, States.{Outcome, consensus_of, change, with_change}}
use Rattle.period_terms.specs.{States.with_signature, Advances.{compute, give_up}}
use Rattle.period_terms.specs.declared.change.ChangeKind.TheVariants as kind

-- a frozen authority computes the consensus, or gives up
abbrev pub make_of : State → Outcome Advance
make_of state = if over (length state.votes) (length state.roster) then compute state (consensus_of state) else
    give_up state

-- the state with these own signatures over these digests, in place of those that were
abbrev pub with_own : SignatureLine → SignatureLine → List ℕ → State → State
with_own ns microdesc digests state = with_change (change kind.Sign (Some state.own) state.valid_after digests)
    (record state {
      stage = Signed;
      ns_lines = with_signature state.ns_lines ns;
      micro_lines = with_signature state.micro_lines microdesc;
    })

-- a text with signatures, where it is wanted
abbrev pub signed_if : Bool → List ℕ → List SignatureLine → Option (List ℕ)
signed_if wanted text lines = if wanted then Some (signed text lines) else None

-- a text in place of another, if there is one
abbrev pub newer : Option (List ℕ) → Option (List ℕ) → Option (List ℕ)
newer None old = old
newer (Some text) old = Some text

-- the state with these texts published, of these digests
abbrev pub with_texts : Option (List ℕ) → Option (List ℕ) → List ℕ → State → State
with_texts ns microdesc digests state = with_change (change kind.Publish None state.valid_after digests) (record state {
  stage = Ended;
  ns_current = newer ns state.ns_current;
  micro_current = newer microdesc state.micro_current;
})
