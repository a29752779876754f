-- What the bytes of an Ed25519 certificate say (cert-spec, "Document formats").
use Rattle.std.specs.Prelude.{ℕ, zero, suc, ◌+◌, ◌-◌, ◌*◌, ◌%◌, ◌==◌, nat_le, Bool, ◌&&◌, if◌then◌else◌, List, length}
use Rattle.std.specs.Prelude.{take, drop, slice_index, slice_range, Option, Some, None}
use Rattle.descriptor_frame.specs.declared.certificate.EdCert.{EdCert}

-- ---- the extensions

-- how many bytes the content of the first extension has: the first two bytes, the higher one first; a type and flags
-- stand behind them
abbrev pub content_len : List ℕ → ℕ
content_len bytes = 256 * slice_index bytes 0 + slice_index bytes 1

-- the content of the first extension
abbrev pub content_of : List ℕ → List ℕ
content_of bytes = take (content_len bytes) (drop 4 bytes)

-- the signer, once an extension of another type than 4 was read: it is passed over, unless the lowest bit of its flags
-- says that it must be understood
abbrev pub signer_past : ℕ → Option (List ℕ) → Option (Option (List ℕ))
signer_past flags signer = if flags % 2 == 1 then None else Some signer

-- the signer, once an extension was read: one of type 4 holds it in 32 bytes, and there is one of them
abbrev pub signer_after : ℕ → ℕ → List ℕ → Option (List ℕ) → Option (Option (List ℕ))
signer_after kind flags content None =
    if kind == 4 then (if length content == 32 then Some (Some content) else None) else signer_past flags None
signer_after kind flags content (Some signer) = if kind == 4 then None else signer_past flags (Some signer)

-- what follows from the signer, if the extension may stand
abbrev pub then_signer : Option (Option (List ℕ)) → (Option (List ℕ) → Option (List ℕ)) → Option (List ℕ)
then_signer None more = None
then_signer (Some signer) more = more signer

-- what the first extension makes of the signer, if the bytes hold it whole
abbrev pub first_extension : Option (List ℕ) → List ℕ → Option (Option (List ℕ))
first_extension signer bytes =
    if nat_le 4 (length bytes) && nat_le (4 + content_len bytes) (length bytes)
    then signer_after (slice_index bytes 2) (slice_index bytes 3) (content_of bytes) signer
    else None

-- the signer that so many extensions hold which fill the bytes
unfoldable pub signer_in : ℕ → Option (List ℕ) → List ℕ → Option (List ℕ)
signer_in zero signer bytes = if length bytes == 0 then signer else None
signer_in (suc count) signer bytes =
    then_signer (first_extension signer bytes) (λ next. signer_in count next (drop (4 + content_len bytes) bytes))

-- ---- the certificate

-- the least number of bytes: those in front of the extensions, and the signature
abbrev pub least_len : ℕ
least_len = 104

-- whether the bytes are enough, and begin with version 1 and type 4, a signing key that its identity key signs
abbrev pub begins_well : List ℕ → Bool
begins_well bytes = nat_le least_len (length bytes) && (slice_index bytes 0 == 1) && (slice_index bytes 1 == 4)

-- whether the bytes are enough, and begin with version 1 and type 12, an identity key that a family key signs
abbrev pub begins_family : List ℕ → Bool
begins_family bytes = nat_le least_len (length bytes) && (slice_index bytes 0 == 1) && (slice_index bytes 1 == 12)

-- the hours since 1970 after which it does not hold: four bytes, the highest one first
abbrev pub expiry_of : List ℕ → ℕ
expiry_of bytes =
    ((slice_index bytes 2 * 256 + slice_index bytes 3) * 256 + slice_index bytes 4) * 256 + slice_index bytes 5

-- the key that is certified
abbrev pub key_of : List ℕ → List ℕ
key_of bytes = slice_range bytes 7 39

-- the certificate without its signature, which is its last 64 bytes
abbrev pub covered_part : List ℕ → List ℕ
covered_part bytes = take (length bytes - 64) bytes

-- the signature
abbrev pub signature_of : List ℕ → List ℕ
signature_of bytes = drop (length bytes - 64) bytes

-- the extensions, which stand between their number and the signature
abbrev pub extensions_of : List ℕ → List ℕ
extensions_of bytes = drop 40 (covered_part bytes)

-- the signer that they hold
abbrev pub signer_of : List ℕ → Option (List ℕ)
signer_of bytes = signer_in (slice_index bytes 39) None (extensions_of bytes)

-- the certificate of a signer
abbrev pub signed_by : List ℕ → List ℕ → EdCert
signed_by bytes signer = record {
  expires_hours = expiry_of bytes;
  key_kind = slice_index bytes 6;
  key = key_of bytes;
  signer = signer;
  signature = signature_of bytes;
  covered = covered_part bytes;
}

-- the same, if it has one
abbrev pub with_signer : List ℕ → Option (List ℕ) → Option EdCert
with_signer bytes None = None
with_signer bytes (Some signer) = Some (signed_by bytes signer)

-- the certificate that bytes are: version, type, expiry, kind of key, key, number of extensions, the extensions,
-- signature
abbrev pub certificate_of : List ℕ → Option EdCert
certificate_of bytes = if begins_well bytes then with_signer bytes (signer_of bytes) else None

-- the certificate that bytes are by which a family key signs the identity key of one of its relays: the same but for its
-- type; its signer is the family key, and the certified key the relay's identity
abbrev pub family_certificate_of : List ℕ → Option EdCert
family_certificate_of bytes = if begins_family bytes then with_signer bytes (signer_of bytes) else None
