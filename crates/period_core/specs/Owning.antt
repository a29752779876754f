-- What comes of an authority's own signing.
use Rattle.std.specs.Prelude.{◌≡◌, ℕ, length}
use Rattle.key_port.specs.Answers.{Relation, Rules}
use Rattle.period_terms.specs.declared.answer.Advance.TheVariants as answer
use Rattle.period_terms.specs.declared.state.State.{State}
use Rattle.period_terms.specs.Advances as advances
use Rattle.period_core.specs.{declared.owning.Own.{Own, TheVariants.{Stays, NoVote, Gave, Memory}}, Rounds.with_own}
use Rattle.period_core.specs.Signing.{Advances}

-- this is what a moment comes to, where the consensus is computed
abbrev pub OwnGives : Relation → Rules → State → Own → Type 0
OwnGives may_give rules s (Stays answer) = (now : ℕ) → Advances may_give rules s now answer s
OwnGives may_give rules s NoVote = (now : ℕ) → Advances may_give rules s now answer.NoOwnVote
    (advances.pass_over s).after
OwnGives may_give rules s (Gave ns microdesc digests) =
    ((now : ℕ) → Advances may_give rules s now answer.Signed (with_own ns microdesc digests s)) × (ns.identity ≡ s.own)
    × (microdesc.identity ≡ s.own) × (length digests ≡ 52)
OwnGives may_give rules s Memory = Unit {0}

-- a fault of the signer, or of the verifier
abbrev pub IsSignerFault : Own → Type 0
IsSignerFault own = own ≡ Stays answer.SignerFault

abbrev pub IsVerifierFault : Own → Type 0
IsVerifierFault own = own ≡ Stays answer.VerifierFault
