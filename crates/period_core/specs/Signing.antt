-- What comes of signing, and of a moment.
use Rattle.std.specs.Prelude.{◌≡◌, ℕ, List, Result, Ok, Err}
use Rattle.key_port.specs.Answers.{Relation, Rules}
use Rattle.consensus_terms.specs.declared.consensus.Consensus.{Consensus}
use Rattle.period_terms.specs.declared.{answer.Advance.Advance, event.Signing.Signing, state.State.State}
use Rattle.period_terms.specs.{States.Outcome, Advances.{MaySign, MayRefuse, MayGive, MayGiveAt, advance}}
use Rattle.period_terms.specs.declared.answer.Advance.TheVariants as answer
use Rattle.dir_bytes.specs.declared.fault.Memory.{Memory}
use Rattle.period_terms.specs.declared.event.Signing.TheVariants as signing
use Rattle.period_core.specs.declared.signing.Unsigned.{Unsigned}
use Rattle.period_core.specs.declared.signing.Unsigned.TheVariants as unsigned

-- signing a digest with a key gives bytes that may be given and accepted, or these were refused
abbrev pub SignsOne : Relation → Rules → List ℕ → List ℕ → Result (List ℕ) Unsigned → Type 0
SignsOne may_give rules key digest (Ok bytes) = MaySign may_give rules.may_accept key digest bytes
SignsOne may_give rules key digest (Err (unsigned.Refused of)) = (of ≡ digest) × MayRefuse may_give rules.may_refuse
    key digest
SignsOne may_give rules key digest (Err unsigned.SignerFails) = Unit {0}
SignsOne may_give rules key digest (Err unsigned.VerifierFails) = Unit {0}
SignsOne may_give rules key digest (Err unsigned.Memory) = Unit {0}

-- signing both digests of a consensus gives what it may
abbrev pub SignsBoth : Relation → Rules → List ℕ → Consensus → Result (List ℕ × List ℕ) Unsigned → Type 0
SignsBoth may_give rules key c (Ok texts) = MayGive may_give rules key c (signing.Given texts.0 texts.1)
SignsBoth may_give rules key c (Err (unsigned.Refused digest)) = MayGive may_give rules key c (signing.Refused digest)
SignsBoth may_give rules key c (Err unsigned.SignerFails) = Unit {0}
SignsBoth may_give rules key c (Err unsigned.VerifierFails) = Unit {0}
SignsBoth may_give rules key c (Err unsigned.Memory) = Unit {0}

-- an answer, and the state after it, are this outcome
abbrev pub Comes : Outcome Advance → Advance → State → Type 0
Comes outcome answer after = (answer ≡ outcome.answer) × (after ≡ outcome.after)

-- What a moment is answered: the outcome of something that the signer may give.
pub record Advances (may_give : Relation) (rules : Rules) (old : State) (now : ℕ) (answer : Advance) (new : State) :
    Type 0 where
  pub given : Signing
  pub may : MayGiveAt may_give rules old given
  pub comes : Comes (advance old now given) answer new

-- no fault of a signer or a verifier is answered
abbrev pub IsQuiet : Result Advance Memory → Type 0
IsQuiet (Ok answer.SignerFault) = ⊥
IsQuiet (Ok answer.VerifierFault) = ⊥
IsQuiet (Ok answer.Nothing) = Unit {0}
IsQuiet (Ok answer.Frozen) = Unit {0}
IsQuiet (Ok answer.Computed) = Unit {0}
IsQuiet (Ok (answer.NoConsensus held roster)) = Unit {0}
IsQuiet (Ok answer.NoOwnVote) = Unit {0}
IsQuiet (Ok answer.Signed) = Unit {0}
IsQuiet (Ok (answer.Published ns microdesc)) = Unit {0}
IsQuiet (Ok (answer.Missed ns microdesc roster)) = Unit {0}
IsQuiet (Ok (answer.Began valid_after)) = Unit {0}
IsQuiet (Ok answer.EndOfTime) = Unit {0}
IsQuiet (Ok (answer.OwnSignatureRefused digest)) = Unit {0}
IsQuiet (Err fault) = Unit {0}
