-- The test scheme. It keeps no secret, and nothing is claimed of its strength.
use Rattle.std.specs.{Prelude.{◌≡◌, ◌↔◌, ℕ, Bool, true, false, List, ◌++◌, codes}, Str.bytes_eq}
use Rattle.sha2.specs.Sha256.{sha256}
use Rattle.dir_bytes.specs.{Causes.next_count, Memories.is_to_fail}
use Rattle.key_port.specs.declared.{verifier.{KeyKind.KeyKind, VerifyAnswer.VerifyAnswer}, signer.SignAnswer.SignAnswer}
use Rattle.key_port.specs.{declared.test_keys.TestKeys.TestKeys, Answers.{Relation, faults_after}}
use Rattle.key_port.specs.Signing.{faults_after_signing}
use Rattle.key_port.specs.declared.verifier.KeyKind.TheVariants as kind
use Rattle.key_port.specs.declared.verifier.VerifyAnswer.TheVariants as answer
use Rattle.key_port.specs.declared.signer.SignAnswer.TheVariants as sign

-- the digest of the eight bytes `test-sig`, the key and the message
abbrev pub test_digest : List ℕ → List ℕ → List ℕ
test_digest key message = sha256 (codes "test-sig" ++ key ++ message)

-- the signature of a message by a key: the digest, which stands twice for a key of Ed25519
abbrev pub test_signature : KeyKind → List ℕ → List ℕ → List ℕ
test_signature kind.Identity key message = test_digest key message
test_signature kind.Signing key message = test_digest key message
test_signature kind.Ed25519 key message = test_digest key message ++ test_digest key message

-- whether this is the signature of the message by the key
abbrev pub is_test_signature : KeyKind → List ℕ → List ℕ → List ℕ → Bool
is_test_signature kind key message signature = bytes_eq signature (test_signature kind key message)

-- a signature is accepted exactly where it is that of the message by the key
abbrev pub AcceptsTestSignatures : Relation → Type 0
AcceptsTestSignatures may_accept =
    (kind : KeyKind) (key message signature : List ℕ) → (may_accept kind key message signature ≡ true) ↔ (signature ≡ test_signature kind key message)

-- keys of which nothing was asked
pub record IsFreshKeys (numbers : List ℕ) (keys : TestKeys) : Type 0 where
  pub failing : keys.failing.items ≡ numbers
  pub calls : keys.calls ≡ 0
  pub faults : keys.faults ≡ 0

-- a call fails exactly where its number stands among those that are to fail
abbrev pub FailsByNumber : TestKeys → VerifyAnswer → Type 0
FailsByNumber old answer.Yes = is_to_fail old.failing.items (next_count old.calls) ≡ false
FailsByNumber old answer.No = is_to_fail old.failing.items (next_count old.calls) ≡ false
FailsByNumber old answer.Fault = is_to_fail old.failing.items (next_count old.calls) ≡ true

-- one more call is counted, a fault where it failed, and what is to come stays
pub record IsNextKeys (old new : TestKeys) (answer : VerifyAnswer) : Type 0 where
  pub calls : new.calls ≡ next_count old.calls
  pub faults : new.faults ≡ faults_after old.faults answer
  pub failing : new.failing.items ≡ old.failing.items

-- the signature that is given is that of the message by the key
abbrev pub IsSignedByScheme : KeyKind → List ℕ → List ℕ → SignAnswer → Type 0
IsSignedByScheme kind key message (sign.Signed signature) = signature ≡ test_signature kind key message
IsSignedByScheme kind key message sign.Fault = Unit {0}
IsSignedByScheme kind key message sign.Memory = Unit {0}

-- a call for a signature fails exactly where its number stands among those that are to fail
abbrev pub FailsToSignByNumber : TestKeys → SignAnswer → Type 0
FailsToSignByNumber old (sign.Signed signature) = is_to_fail old.failing.items (next_count old.calls) ≡ false
FailsToSignByNumber old sign.Fault = is_to_fail old.failing.items (next_count old.calls) ≡ true
FailsToSignByNumber old sign.Memory = is_to_fail old.failing.items (next_count old.calls) ≡ false

-- one more call is counted, a fault where it failed, and what is to come stays
pub record IsNextSigner (old new : TestKeys) (answer : SignAnswer) : Type 0 where
  pub calls : new.calls ≡ next_count old.calls
  pub faults : new.faults ≡ faults_after_signing old.faults answer
  pub failing : new.failing.items ≡ old.failing.items
