-- What an offered signature is answered, and what it changes (dir-spec, "Exchanging detached signatures").
use Rattle.std.specs.{Prelude.{◌+◌, ◌==◌, not, [], ◌∷◌, ◌++◌, Option, Some, None, if◌then◌else◌}, Str.bytes_eq}
use Rattle.consensus_terms.specs.declared.{consensus.Consensus.Consensus, flavour.Flavour.{Flavour, TheVariants.Ns}}
use Rattle.consensus_terms.specs.declared.{flavour.Flavour.TheVariants.Microdesc, signature.SignatureLine.SignatureLine}
use Rattle.period_terms.specs.declared.answer.SignIn.{SignIn, TheVariants.{OtherPeriod, NotComputed, OtherDigest}}
use Rattle.period_terms.specs.declared.answer.SignIn.TheVariants.{Stranger, Have, Closed, Kept}
use Rattle.period_terms.specs.declared.{signature.OfferedSignature.OfferedSignature, state.State.State}
use Rattle.period_terms.specs.{Advances.algorithm_of, States.{Outcome, unchanged_outcome, is_ended, has_key, digest_of}}
use Rattle.period_terms.specs.States.{lines_of, has_line, change, with_change}
use Rattle.period_terms.specs.declared.change.ChangeKind.TheVariants as kind

-- an offered signature as it is held
abbrev pub line_of : OfferedSignature → SignatureLine
line_of signature = record {
  algorithm = algorithm_of signature.flavour;
  identity = signature.authority;
  key_digest = signature.key_digest;
  signature = signature.signature;
}

-- the state with one more signature of a flavour
abbrev pub with_line : Flavour → SignatureLine → State → State
with_line Ns line state = record state { ns_lines = state.ns_lines ++ line ∷ [] }
with_line Microdesc line state = record state { micro_lines = state.micro_lines ++ line ∷ [] }

-- the signature is held from now on
abbrev pub keep_signature : State → OfferedSignature → Outcome SignIn
keep_signature state signature = record {
  answer = Kept (state.front + 1);
  after = with_change (change kind.Signature (Some signature.authority) state.valid_after signature.digest)
      (with_line signature.flavour (line_of signature) state);
}

-- the outcome of a signature where this is computed
abbrev pub sign_in_over : State → OfferedSignature → Option Consensus → Outcome SignIn
sign_in_over state signature None = unchanged_outcome state NotComputed
sign_in_over state signature (Some c) =
    if not (bytes_eq signature.digest (digest_of signature.flavour c))
    then unchanged_outcome state (OtherDigest (digest_of signature.flavour c))
    else if not (has_key state.votes signature.authority signature.key)
    then unchanged_outcome state (Stranger signature.authority)
    else if has_line (lines_of signature.flavour state) signature.authority then unchanged_outcome state Have
    else if is_ended state.stage then unchanged_outcome state Closed
    else keep_signature state signature

-- the outcome of an offered signature
unfoldable pub sign_in : State → OfferedSignature → Outcome SignIn
sign_in state signature =
    if not (signature.valid_after == state.valid_after) then unchanged_outcome state (OtherPeriod state.valid_after)
    else sign_in_over state signature state.computed
