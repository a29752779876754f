-- The short forms of the entries of a history, and where the period's begin.
use Rattle.std.specs.Prelude.{◌≡◌, ℕ, Bool, true, false, List, [], ◌∷◌, ◌++◌, Option, Some, None, if◌then◌else◌}
use Rattle.vote_terms.specs.Votes.{ReadVote, rank_of}
use Rattle.consensus_terms.specs.declared.consensus.Consensus.{Consensus}
use Rattle.period_terms.specs.declared.answer.{Advance.Advance, Answer.{Answer, TheVariants.{Vote, Moment, Signature}}}
use Rattle.period_terms.specs.declared.answer.{Answer.TheVariants.Reading, Offer.Offer, SignIn.SignIn}
use Rattle.period_terms.specs.declared.{change.Change.Change, event.Event.{Event, TheVariants.{Offered, Advanced}}}
use Rattle.period_terms.specs.declared.event.Event.TheVariants.{SignedIn, Read}
use Rattle.period_terms.specs.declared.{signature.OfferedSignature.OfferedSignature, state.State.State}
use Rattle.period_terms.specs.{States.{consensus_of, both_digests, change}, Offers.offer, Advances.advance}
use Rattle.period_terms.specs.{Advances.published_digests, SignIns.sign_in, Steps.{step, offer_changes}}
use Rattle.period_terms.specs.{Steps.sign_in_changes, Histories.{IsStart, run}}
use Rattle.period_terms.specs.declared.answer.Advance.TheVariants as moments
use Rattle.period_terms.specs.declared.change.ChangeKind.TheVariants as kind

-- digests of what is computed, where something is
abbrev pub digests_by : (Consensus → List ℕ) → Option Consensus → List ℕ
digests_by digests None = []
digests_by digests (Some c) = digests c

-- the short form of a moment that changed something, in the state before it
abbrev pub moment_form : State → Advance → List Change
moment_form state moments.Nothing = []
moment_form state moments.Frozen = change kind.Freeze None state.valid_after [] ∷ []
moment_form state moments.Computed = change kind.Compute None state.valid_after (both_digests (consensus_of state)) ∷ []
moment_form state (moments.NoConsensus held roster) = change kind.NoConsensus None state.valid_after [] ∷ []
moment_form state moments.NoOwnVote = change kind.NoOwnVote (Some state.own) state.valid_after [] ∷ []
moment_form state moments.Signed =
    change kind.Sign (Some state.own) state.valid_after (digests_by both_digests state.computed) ∷ []
moment_form state (moments.Published ns microdesc) =
    change kind.Publish None state.valid_after (digests_by (published_digests ns microdesc) state.computed) ∷ []
moment_form state (moments.Missed ns microdesc roster) = change kind.Miss None state.valid_after [] ∷ []
moment_form state (moments.Began valid_after) = change kind.Begin None valid_after [] ∷ []
moment_form state moments.EndOfTime = []
moment_form state moments.SignerFault = []
moment_form state moments.VerifierFault = []
moment_form state (moments.OwnSignatureRefused digest) = []

-- the short form of a kept vote, and of a kept signature
abbrev pub vote_form : ReadVote → Offer → List Change
vote_form vote answer =
    if offer_changes answer
    then change kind.Vote (Some vote.says.identity) vote.says.published (rank_of vote).whole.0 ∷ [] else []

abbrev pub signature_form : State → OfferedSignature → SignIn → List Change
signature_form state signature answer =
    if sign_in_changes answer
    then change kind.Signature (Some signature.authority) state.valid_after signature.digest ∷ [] else []

-- whether the next period began
abbrev pub begins_next : Advance → Bool
begins_next moments.Nothing = false
begins_next moments.Frozen = false
begins_next moments.Computed = false
begins_next (moments.NoConsensus held roster) = false
begins_next moments.NoOwnVote = false
begins_next moments.Signed = false
begins_next (moments.Published ns microdesc) = false
begins_next (moments.Missed ns microdesc roster) = false
begins_next (moments.Began valid_after) = true
begins_next moments.EndOfTime = false
begins_next moments.SignerFault = false
begins_next moments.VerifierFault = false
begins_next (moments.OwnSignatureRefused digest) = false

-- the short forms since the period began, after an event
abbrev pub forms_after : State → Event → List Change → List Change
forms_after state (Offered vote via now) forms = forms ++ vote_form vote (offer state vote via now).answer
forms_after state (Advanced now given) forms =
    if begins_next (advance state now given).answer
    then [] else forms ++ moment_form state (advance state now given).answer
forms_after state (SignedIn signature) forms = forms ++ signature_form state signature (sign_in state signature).answer
forms_after state Read forms = forms

-- these short forms, and those of the events from a state on, since the period began
abbrev pub forms_with : List Change → State → List Event → List Change
forms_with forms state [] = forms
forms_with forms state (event ∷ events) = forms_with (forms_after state event forms) (step state event).after events

-- The stored changes are the short forms of what changed something since the period began.
abbrev pub FormsAreStored : Type 0
FormsAreStored = (start : State) (events : List Event) → IsStart start
    → (run start events).changes ≡ forms_with [] start events

-- where an event is the begin of a period
abbrev pub is_begin : Answer → Bool
is_begin (Vote answer) = false
is_begin (Moment answer) = begins_next answer
is_begin (Signature answer) = false
is_begin Reading = false

-- The base is the front after the last begin: a begin sets it, and nothing else changes it.
abbrev pub BaseIsLastBegin : Type 0
BaseIsLastBegin = (state : State) (event : Event)
    → (step state event).after.base ≡
    (if is_begin (step state event).answer then (step state event).after.front else state.base)
