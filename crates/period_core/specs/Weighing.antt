-- What is told of an offered signature, before anything is changed.
use Rattle.std.specs.{Prelude.{ℕ, ◌==◌, not, option_map, List, Option, Some, None, if◌then◌else◌}, Str.bytes_eq}
use Rattle.consensus_terms.specs.declared.flavour.Flavour.{Flavour, TheVariants.{Ns, Microdesc}}
use Rattle.consensus_terms.specs.declared.signature.SignatureLine.{SignatureLine}
use Rattle.period_terms.specs.declared.answer.SignIn.{SignIn, TheVariants.{OtherPeriod, NotComputed, OtherDigest}}
use Rattle.period_terms.specs.declared.answer.SignIn.TheVariants.{Stranger, Have, Closed}
use Rattle.period_terms.specs.declared.{signature.OfferedSignature.OfferedSignature, state.State.State}
use Rattle.period_terms.specs.{SignIns.{keep_signature, with_line}, States.{Outcome, unchanged_outcome, is_ended}}
use Rattle.period_terms.specs.States.{has_key, digest_of, lines_of, has_line, change, with_change}
use Rattle.period_terms.specs.declared.change.ChangeKind.TheVariants as kind
use Rattle.period_core.specs.declared.weighing.Weighed.{Weighed, TheVariants.{Refused, Fits}}

-- how many bytes a digest of a flavour has
abbrev pub digest_size : Flavour → ℕ
digest_size Ns = 20
digest_size Microdesc = 32

-- what is told of a signature where what is computed has this digest
abbrev pub weighed_over : State → OfferedSignature → Option (List ℕ) → Weighed
weighed_over state signature None = Refused NotComputed
weighed_over state signature (Some ours) =
    if not (bytes_eq signature.digest ours) then Refused (OtherDigest ours)
    else if not (has_key state.votes signature.authority signature.key) then Refused (Stranger signature.authority)
    else if has_line (lines_of signature.flavour state) signature.authority then Refused Have
    else if is_ended state.stage then Refused Closed
    else Fits

-- what is told of a signature
abbrev pub weighed_signature : State → OfferedSignature → Weighed
weighed_signature state signature =
    if not (signature.valid_after == state.valid_after) then Refused (OtherPeriod state.valid_after)
    else weighed_over state signature (option_map (digest_of signature.flavour) state.computed)

-- the state with one more signature, over this digest
abbrev pub with_signed : Flavour → SignatureLine → List ℕ → State → State
with_signed flavour line digest state =
    with_change (change kind.Signature (Some line.identity) state.valid_after digest) (with_line flavour line state)

-- the outcome of what is told
abbrev pub settled_signature : State → OfferedSignature → Weighed → Outcome SignIn
settled_signature state signature (Refused answer) = unchanged_outcome state answer
settled_signature state signature Fits = keep_signature state signature
