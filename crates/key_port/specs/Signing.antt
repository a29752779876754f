-- What an answer of a signer tells.
use Rattle.std.specs.Prelude.{◌≡◌, ℕ, ◌+◌, ◌-◌, ◌^◌, ◌≤◌, min, Bool, true, List, length}
use Rattle.dir_bytes.specs.Causes.{Counts}
use Rattle.hex.specs.Hex.{IsBytes}
use Rattle.key_port.specs.{declared.{signer.SignAnswer.SignAnswer, verifier.KeyKind.KeyKind}, Answers.Relation}
use Rattle.key_port.specs.declared.signer.SignAnswer.TheVariants as sign

-- how many bytes a signature may have
abbrev pub signature_limit : ℕ
signature_limit = 32766

-- the steps of a signer: from what it was, by a question of it and its answer, to what it is
abbrev pub SignerSteps : Type 0 → Type 1
SignerSteps N = N → KeyKind → List ℕ → List ℕ → SignAnswer → N → Type 0

-- a signature comes only where it may be given; it is of bytes, and not too long
abbrev pub GivesBy : (List ℕ → Bool) → SignAnswer → Type 0
GivesBy gives (sign.Signed signature) = (gives signature ≡ true) × (length signature ≤ signature_limit) × IsBytes signature
GivesBy gives sign.Fault = Unit {0}
GivesBy gives sign.Memory = Unit {0}

-- the count of faults rose where the signer failed, and else is as it was
abbrev pub CountsSigning : ℕ → ℕ → SignAnswer → Type 0
CountsSigning before now (sign.Signed signature) = now ≡ before
CountsSigning before now sign.Fault = Counts before now
CountsSigning before now sign.Memory = now ≡ before

-- how many faults there are after an answer of a signer that had so many
abbrev pub faults_after_signing : ℕ → SignAnswer → ℕ
faults_after_signing faults (sign.Signed signature) = faults
faults_after_signing faults sign.Fault = min (faults + 1) (2 ^ 64 - 1)
faults_after_signing faults sign.Memory = faults

-- each signature that may be given may be accepted
abbrev pub GivesWhatIsAccepted : Relation → Relation → Type 0
GivesWhatIsAccepted may_give may_accept =
    (kind : KeyKind) (key message signature : List ℕ) → may_give kind key message signature ≡ true → may_accept kind key message signature ≡ true
