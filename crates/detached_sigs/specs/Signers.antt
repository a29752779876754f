-- Who signed a digest (dir-spec, "Serving and fetching detached signatures"): the members of some keys, by lines of
-- signatures and what a verifier may answer of them.
use Rattle.std.specs.Prelude.{◌≡◌, ◌&&◌, ◌||◌, ◌⊎◌, ℕ, Bool, true, false, not, List, length, All, AllPairs, Contains}
use Rattle.std.specs.{List.{list_any, list_all}, Str.bytes_eq}
use Rattle.sha1.specs.Sha1.{sha1}
use Rattle.dir_values.specs.Digests.{same_identity}
use Rattle.key_port.specs.{Answers.{Relation, Rules}, declared.verifier.VerifyAnswer.VerifyAnswer}
use Rattle.key_port.specs.declared.verifier.KeyKind.TheVariants as kind
use Rattle.key_port.specs.declared.verifier.VerifyAnswer.TheVariants as answer
use Rattle.consensus_terms.specs.declared.signature.SignatureLine.{SignatureLine}
use Rattle.detached_sigs.specs.declared.key.SignerKey.{SignerKey}

-- whether a line is of a key: it names its authority and the SHA-1 of its bytes
abbrev pub is_line_of : SignerKey → SignatureLine → Bool
is_line_of key line = same_identity line.identity key.authority && bytes_eq line.key_digest.0 (sha1 key.key)

-- whether the signature of a line is one of a relation, by a key over a digest
abbrev pub is_signed : Relation → List ℕ → SignerKey → SignatureLine → Bool
is_signed relation digest key line = relation kind.Signing key.key digest line.signature

-- whether a key has a line whose signature may be accepted
abbrev pub has_good_line : Rules → List ℕ → List SignatureLine → SignerKey → Bool
has_good_line rules digest lines key =
    list_any (λ line. is_line_of key line && is_signed rules.may_accept digest key line) lines

-- whether each line of a key has a signature that may be refused
abbrev pub has_bad_lines : Rules → List ℕ → List SignatureLine → SignerKey → Bool
has_bad_lines rules digest lines key =
    list_all (λ line. not (is_line_of key line) || is_signed rules.may_refuse digest key line) lines

-- two keys are of two authorities
abbrev pub AreApart : SignerKey → SignerKey → Type 0
AreApart one other = same_identity one.authority other.authority ≡ false

-- Some of the keys, each once: each of these has a line that may be accepted, and of the others each line may be
-- refused.
pub record AreSigners (rules : Rules) (digest : List ℕ) (keys : List SignerKey) (lines : List SignatureLine)
    (signers : List SignerKey) : Type 0 where
  pub members : All (Contains keys) signers
  pub once : AllPairs AreApart signers
  pub signed : All (λ key. has_good_line rules digest lines key ≡ true) signers
  pub others : All (λ key. Contains signers key ⊎ (has_bad_lines rules digest lines key ≡ true)) keys

-- How many there are in a list of these.
pub record CountsSigners (rules : Rules) (digest : List ℕ) (keys : List SignerKey) (lines : List SignatureLine)
    (count : ℕ) : Type 0 where
  pub signers : List SignerKey
  pub are : AreSigners rules digest keys lines signers
  pub number : count ≡ length signers

-- yes comes only where the line is the key's and may be accepted, no only where it is another's or may be refused
abbrev pub SignsLine : Rules → List ℕ → SignatureLine → SignerKey → VerifyAnswer → Type 0
SignsLine rules digest line key answer.Yes = (is_line_of key line && is_signed rules.may_accept digest key line) ≡ true
SignsLine rules digest line key answer.No = (not (is_line_of key line) || is_signed rules.may_refuse digest key line)
    ≡ true
SignsLine rules digest line key answer.Fault = Unit {0}

-- yes comes only where the key has a line that may be accepted, no only where each of its lines may be refused
abbrev pub SignsBy : Rules → List ℕ → List SignatureLine → SignerKey → VerifyAnswer → Type 0
SignsBy rules digest lines key answer.Yes = has_good_line rules digest lines key ≡ true
SignsBy rules digest lines key answer.No = has_bad_lines rules digest lines key ≡ true
SignsBy rules digest lines key answer.Fault = Unit {0}
