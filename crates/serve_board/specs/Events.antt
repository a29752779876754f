-- What the private events of a board say.
use Rattle.std.specs.Prelude.{◌≡◌, ◌≤◌, ℕ, List, Option, Some, None, Result, Ok, Err}
use Rattle.dir_bytes.specs.{Causes.Rose, declared.fault.Memory.Memory}
use Rattle.key_port.specs.Answers.{Relation, Rules}
use Rattle.vote_terms.specs.Votes.{ReadVote}
use Rattle.descriptor_doc.specs.declared.descriptor.Descriptor.{Descriptor}
use Rattle.vote_pool.specs.{declared.answers.Keep.Keep, Pools.{Pooled, answer_to}}
use Rattle.period_terms.specs.declared.answer.{Advance.Advance, Answer.TheVariants.{Vote, Moment, Signature}}
use Rattle.period_terms.specs.declared.{answer.{Offer.Offer, SignIn.SignIn}, entry.Entry.Entry}
use Rattle.period_terms.specs.declared.event.{Event.TheVariants.{Offered, Advanced, SignedIn}, Via.Via}
use Rattle.period_terms.specs.declared.{signature.OfferedSignature.OfferedSignature, state.State.State}
use Rattle.period_terms.specs.{Advances.{MayGiveAt, given_told}, Histories.{after, entry_if}}
use Rattle.period_terms.specs.declared.answer.Advance.TheVariants as moments
use Rattle.period_laws.specs.Checked.{IsCheckedHistory}
use Rattle.serve_board.specs.{Boards.StepsThere, Stocks.{stock_after, AreKept, kept_if}, Turns.AnswersThere}

-- a reply that is there, and is that to an offered vote
abbrev pub OffersThere : Rules → ReadVote → Via → ℕ → State → List Entry → Option Offer → Type 0
OffersThere rules vote via now start story None = ⊥
OffersThere rules vote via now start story (Some answer) =
    StepsThere rules (Offered vote via now) start story (Vote answer)

-- the entry of the event that offers a vote, if it had one
abbrev pub offered_entry : Option ReadVote → Via → ℕ → Option Offer → Option Entry
offered_entry None via now answer = None
offered_entry (Some vote) via now None = None
offered_entry (Some vote) via now (Some answer) = entry_if (Offered vote via now) (Vote answer)

-- a reply that is there, and is that to an offered signature
abbrev pub SignsThere : Rules → OfferedSignature → State → List Entry → Option SignIn → Type 0
SignsThere rules signature start story None = ⊥
SignsThere rules signature start story (Some answer) =
    StepsThere rules (SignedIn signature) start story (Signature answer)

-- the entry of the event that offers a signature, if it had one
abbrev pub signed_entry : Option OfferedSignature → Option SignIn → Option Entry
signed_entry None answer = None
signed_entry (Some signature) None = None
signed_entry (Some signature) (Some answer) = entry_if (SignedIn signature) (Signature answer)

-- a reply that is there, and is that to a descriptor
abbrev pub KeepsThere : Rules → Descriptor → Pooled → List Descriptor → Option Keep → Type 0
KeepsThere rules descriptor start story None = ⊥
KeepsThere rules descriptor start story (Some answer) =
    AnswersThere stock_after (AreKept rules) answer_to kept_if descriptor start story answer

-- the entry of the event that keeps a descriptor, if it had one
abbrev pub kept_entry : Option Descriptor → Option Keep → Option Descriptor
kept_entry None answer = None
kept_entry (Some descriptor) None = None
kept_entry (Some descriptor) (Some answer) = kept_if descriptor answer

-- the entry of the event that advances a state, as the answer and the state after it tell
abbrev pub moved_entry : ℕ → Result Advance Memory → State → Option Entry
moved_entry now (Ok answer) then = entry_if (Advanced now (given_told answer then)) (Moment answer)
moved_entry now (Err fault) then = None

-- an advance with what the answer and the state after it tell that the signer gave; or there was no memory
abbrev pub MovesThere : Relation → Rules → ℕ → State → List Entry → Result Advance Memory → State → Type 0
MovesThere may_give rules now start story (Ok answer) then =
    StepsThere rules (Advanced now (given_told answer then)) start story (Moment answer)
    × MayGiveAt may_give rules (after start story) (given_told answer then)
MovesThere may_give rules now start story (Err fault) then = IsCheckedHistory rules start story

-- A count of faults did not fall, and it rose where the fault was answered.
pub record CountsFault (fault : Type 0) (before now : ℕ) : Type 0 where
  pub cause : fault → Rose before now
  pub kept : before ≤ now

-- what an advance finds and leaves, and what it did to the counts of the signer and the verifier
pub record AdvancesThere {N V : Type 0} (may_give : Relation) (rules : Rules) (signer_faults : N → ℕ)
    (verifier_faults : V → ℕ) (now : ℕ) (start : State) (story : List Entry) (answer : Result Advance Memory)
    (then : State) (signer signer_then : N) (verifier verifier_then : V) : Type 0 where
  pub moves : MovesThere may_give rules now start story answer then
  pub signer_is : CountsFault (answer ≡ Ok moments.SignerFault) (signer_faults signer) (signer_faults signer_then)
  pub verifier_is :
      CountsFault (answer ≡ Ok moments.VerifierFault) (verifier_faults verifier) (verifier_faults verifier_then)
