-- The signer that an Ed25519 certificate names has thirty-two bytes.
use Rattle.std.proofs.Common.{◌≡◌, ℕ, zero, suc, ◌+◌, ◌-◌, Bool, true, false, List, length, drop, Option, Some, None}
use Rattle.std.{proofs.{Common.refl, lemmas.Bool.eqb-true}, specs.Prelude.{IfSome, ◌==◌, ◌&&◌, ◌%◌, nat_le}}
use Rattle.std.specs.Prelude.{slice_index, if◌then◌else◌}
use Rattle.base64.specs.GeneralPurpose.{IsBytes}
use Rattle.descriptor_frame.specs.Certificates.{begins_well, certificate_of, content_len, content_of, covered_part}
use Rattle.descriptor_frame.specs.Certificates.{extensions_of, first_extension, signer_after, signer_in, signer_of}
use Rattle.descriptor_frame.specs.Certificates.{signer_past, then_signer, with_signer}
use Rattle.group_laws.specs.Ranges.{AreThirtyTwo}
use Rattle.row_laws.proofs.ReadBytes.{bytes_drop, bytes_take}

-- a signer has thirty-two bytes, if there is one
abbrev AreIf : Option (List ℕ) → Type 0
AreIf signer = IfSome signer AreThirtyTwo

-- and so where extensions go on
abbrev AreIfOn : Option (Option (List ℕ)) → Type 0
AreIfOn None = Unit {0}
AreIfOn (Some signer) = AreIf signer

past : (flags : ℕ) (signer : Option (List ℕ)) → AreIf signer → AreIfOn (signer_past flags signer)
past flags signer are = by (flags % 2 == 1)
  where
    by : (t : Bool) → AreIfOn (if t then None else Some signer)
    by true = tt
    by false = are

after : (kind flags : ℕ) (content : List ℕ) (signer : Option (List ℕ)) → IsBytes content → AreIf signer
    → AreIfOn (signer_after kind flags content signer)
after kind flags content None bytes are = by (kind == 4) (length content == 32) refl
  where
    by : (kind_is size_is : Bool) → (length content == 32) ≡ size_is
        → AreIfOn (if kind_is then (if size_is then Some (Some content) else None) else signer_past flags None)
    by true true e = record { count = eqb-true (length content) 32 e; each = bytes }
    by true false e = tt
    by false size_is e = past flags None tt
after kind flags content (Some signer) bytes are = by (kind == 4)
  where
    by : (t : Bool) → AreIfOn (if t then None else signer_past flags (Some signer))
    by true = tt
    by false = past flags (Some signer) are

first : (signer : Option (List ℕ)) (bytes : List ℕ) → IsBytes bytes → AreIf signer
    → AreIfOn (first_extension signer bytes)
first signer bytes of_bytes are =
    by (nat_le 4 (length bytes) && nat_le (4 + content_len bytes) (length bytes))
  where
    by : (t : Bool)
        → AreIfOn (if t then signer_after (slice_index bytes 2) (slice_index bytes 3) (content_of bytes) signer
        else None)
    by true =
        after (slice_index bytes 2) (slice_index bytes 3) (content_of bytes) signer
        (bytes_take (content_len bytes) (drop 4 bytes) (bytes_drop 4 bytes of_bytes)) are
    by false = tt

all : (count : ℕ) (signer : Option (List ℕ)) (bytes : List ℕ) → IsBytes bytes → AreIf signer
    → AreIf (signer_in count signer bytes)
unfolding signer_in
all zero signer bytes of_bytes are = by (length bytes == 0)
  where
    by : (t : Bool) → AreIf (if t then signer else None)
    by true = are
    by false = tt
all (suc count) signer bytes of_bytes are =
    by (λ next are. all count next (drop (4 + content_len bytes) bytes)
    (bytes_drop (4 + content_len bytes) bytes of_bytes) are) (first_extension signer bytes)
    (first signer bytes of_bytes are)
  where
    by : ((next : Option (List ℕ)) → AreIf next → AreIf (signer_in count next (drop (4 + content_len bytes) bytes)))
        → (made : Option (Option (List ℕ))) → AreIfOn made
        → AreIf (then_signer made (λ next. signer_in count next (drop (4 + content_len bytes) bytes)))
    by more None are = tt
    by more (Some next) are = more next are

-- The signer of a certificate that bytes are has thirty-two bytes.
pub signer_is : (bytes : List ℕ) → IsBytes bytes
    → IfSome (certificate_of bytes) (λ certificate. AreThirtyTwo certificate.signer)
signer_is bytes of_bytes = by (begins_well bytes)
  where
    covered : IsBytes (covered_part bytes)
    covered = bytes_take (length bytes - 64) bytes of_bytes

    named : (signer : Option (List ℕ)) → AreIf signer
        → IfSome (with_signer bytes signer) (λ certificate. AreThirtyTwo certificate.signer)
    named None are = tt
    named (Some signer) are = are

    by : (t : Bool) → IfSome (if t then with_signer bytes (signer_of bytes) else None)
        (λ certificate. AreThirtyTwo certificate.signer)
    by true =
        named (signer_of bytes)
        (all (slice_index bytes 39) None (extensions_of bytes) (bytes_drop 40 (covered_part bytes) covered) tt)
    by false = tt
