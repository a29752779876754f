-- What is taken of a certificate lies within its bytes.
use Rattle.std.specs.{Prelude.{◌≡◌, ℕ, ◌≤◌, ◌++◌, true, is_some, List, length, map}, List.AllByRecursion}
use Rattle.frame_terms.specs.declared.document.Taken.{Taken}
use Rattle.frame_terms.specs.declared.keyword.Keyword.TheVariants as the
use Rattle.frame_values.specs.{Values.item_at, declared.{found.Span.Span, values.Value.Value}}
use Rattle.frame_values.specs.declared.values.Value.TheVariants as value
use Rattle.authority_certs.specs.{Certs.{cert_in, whole_part}, Heads.head_of}
use Rattle.certificate_laws.specs.Lifted.{moved_taken}

-- a span ends within so many bytes
pub record IsSpanIn (end : ℕ) (span : Span) : Type 0 where
  pub order : span.start ≤ span.end
  pub within : span.end ≤ end

-- where a value is a text or an object, this ends within so many bytes; a certificate's is none of its own
abbrev pub IsValueIn : ℕ → Value (Unit {0}) → Type 0
IsValueIn end value.Nothing = Unit {0}
IsValueIn end (value.Text span) = IsSpanIn end span
IsValueIn end (value.Number number) = Unit {0}
IsValueIn end (value.Fingerprint identity) = Unit {0}
IsValueIn end (value.Object lines) = IsSpanIn end lines
IsValueIn end (value.Own own) = ⊥

-- what was taken ends within so many bytes
pub record IsTakenIn (end : ℕ) (one : Taken (Value (Unit {0}))) : Type 0 where
  pub value : IsValueIn end one.value
  pub place : one.place ≤ end
  pub line : one.line_end ≤ end
  pub after : one.after ≤ end

-- what was taken of a certificate lies within its bytes, and its first and its last item are there
pub record AreTakenIn (bytes : List ℕ) (taken : List (Taken (Value (Unit {0})))) : Type 0 where
  pub each : AllByRecursion (IsTakenIn (length bytes)) taken
  pub version : is_some (item_at taken the.DirKeyCertificateVersion) ≡ true
  pub certification : is_some (item_at taken the.DirKeyCertification) ≡ true

-- What was taken of the bytes says the same where they stand behind others, in front of whatever follows, in a document
-- whose own items say W; and it has the same bytes.
pub record SayTheSame (W : Type 0) (front bytes rest : List ℕ) (taken : List (Taken (Value (Unit {0})))) : Type 0 where
  pub says : cert_in (front ++ (bytes ++ rest)) (head_of (map (moved_taken {W = W} (length front)) taken))
      ≡ cert_in bytes (head_of taken)
  pub whole : whole_part (front ++ (bytes ++ rest)) (head_of (map (moved_taken {W = W} (length front)) taken))
      ≡ whole_part bytes (head_of taken)

-- It says the same wherever the bytes stand.
abbrev pub CertsSayTheSame : (W : Type 0) → Type 0
CertsSayTheSame W = (front bytes rest : List ℕ) (taken : List (Taken (Value (Unit {0})))) → AreTakenIn bytes taken
    → SayTheSame W front bytes rest taken
