-- A signature of a consensus that was written is read again; one of an unknown algorithm says nothing.
use Rattle.std.proofs.Common.{◌≡◌, ℕ, ◌<◌, Bool, true, false, List, [], ◌∷◌, ◌++◌, length, Option, Some, None, Ok, refl}
use Rattle.std.{proofs.Common.{sym, subst, ◌∙◌, append_assoc}, specs.Prelude.{IfSome, codes, if◌then◌else◌}}
use Rattle.std.specs.Str.{bytes_eq}
use Rattle.item_terms.specs.Items.{Item}
use Rattle.dir_bytes.specs.FieldTexts.{hex_text}
use Rattle.dir_values.specs.Digests.{fingerprint}
use Rattle.dirdoc_grammar.specs.{Writers.is_argument, Writing.written}
use Rattle.frame_terms.specs.declared.keyword.Keyword.{Keyword}
use Rattle.frame_values.specs.{Items.with_object, Signatures.{is_space, known_signature_of}}
use Rattle.frame_values.specs.declared.found.VoteSignature.{VoteSignature}
use Rattle.group_laws.{specs.Again.IsSignerInRange, proofs.SignatureLines.{known_again, space_again}}
use Rattle.group_laws.proofs.WrittenSignatures.{signer_some}
use Rattle.group_laws.specs.Again as lines
use Rattle.consensus_terms.specs.{Signed.{algorithm_text, signer_text}, declared.signature.SignatureLine.SignatureLine}
use Rattle.consensus_frame.specs.Tables.{signature_of}
use Rattle.consensus_laws.specs.Again.{IsSignatureInRange}

-- ---- what it says

-- the name that is written: SHA-1 is not named
abbrev pub name_if : Bool → List ℕ → Option (List ℕ)
name_if true name = None
name_if false name = Some name

abbrev pub name_of : SignatureLine → Option (List ℕ)
name_of s = name_if (bytes_eq s.algorithm (codes "sha1")) s.algorithm

-- what a signature says, and nothing where its algorithm is not known
abbrev pub signature_said : ℕ → Keyword → SignatureLine → Option VoteSignature
signature_said p k s = lines.signature_said p k (name_of s) s.identity s.key_digest s.signature

-- ---- the line

-- its text is that of a line with this name
pub signer_same : (s : SignatureLine) → signer_text s ≡ lines.signer_text (name_of s) s.identity s.key_digest
signer_same s = by (bytes_eq s.algorithm (codes "sha1"))
  where
    moved : (a b c : List ℕ) → ((a ++ 32 ∷ []) ++ b) ++ c ≡ a ++ 32 ∷ (b ++ c)
    moved a b c = simp append_assoc refl

    by : (t : Bool)
        → (if t then [] else s.algorithm ++ 32 ∷ []) ++ hex_text s.identity.0 ++ 32 ∷ hex_text s.key_digest.0
        ≡ lines.signer_text (name_if t s.algorithm) s.identity s.key_digest
    by true = refl
    by false = moved s.algorithm (hex_text s.identity.0) (32 ∷ hex_text s.key_digest.0)

-- its text is not empty
pub signer_filled : (s : SignatureLine) → 0 < length (signer_text s)
signer_filled s = signer_some (algorithm_text s.algorithm) (hex_text s.identity.0) (hex_text s.key_digest.0)

signer_range : (s : SignatureLine) → IsSignatureInRange s → IsSignerInRange (name_of s) s.identity s.key_digest
signer_range s are = record {
  name_is = by (bytes_eq s.algorithm (codes "sha1"));
  identity_is = are.identity;
  key_is = are.key_digest;
}
  where
    by : (t : Bool)
        → IfSome (name_if t s.algorithm) (λ (n : List ℕ). (is_argument n ≡ true) × (fingerprint n ≡ None))
    by true = tt
    by false = (are.algorithm, are.no_identity)

-- A signature is read as it was written, whether one stands before it or not.
pub signature_again : (is_signed : Bool) (p : ℕ) (k : Keyword) (s : SignatureLine) → IsSignatureInRange s
    → signature_of is_signed (written p (with_object k (signer_text s) (codes "SIGNATURE") s.signature))
    ≡ Ok (signature_said p k s)
signature_again is_signed p k s are =
    subst (λ (t : List ℕ). signature_of is_signed (item_with t) ≡ Ok (signature_said p k s)) (sym (signer_same s))
    (by is_signed)
  where
    item_with : List ℕ → Item
    item_with text = written p (with_object k text (codes "SIGNATURE") s.signature)

    text : List ℕ
    text = lines.signer_text (name_of s) s.identity s.key_digest

    spaced : (item : Item) → is_space item.separator ≡ true → signature_of false item ≡ known_signature_of item
    spaced item is = rw is refl

    known : known_signature_of (item_with text) ≡ Ok (signature_said p k s)
    known = known_again p k s.identity s.key_digest s.signature (name_of s) (signer_range s are)

    by : (t : Bool) → signature_of t (item_with text) ≡ Ok (signature_said p k s)
    by true = known
    by false =
        spaced (item_with text) (space_again p k s.identity s.key_digest s.signature (name_of s)) ∙ known
