-- Digests of fixed length: what their texts spell, how they are written, and their order.
use Rattle.std.specs.{Prelude.{ℕ, Bool, true, false, List, Option}, Option.option_map, declared.cmp.Ordering.Ordering}
use Rattle.std.specs.{declared.cmp.Ordering.TheVariants.{Less, Equal, Greater}, Ordering.nat_cmp}
use Rattle.std.specs.{Cmp.Lexicographic.slice_cmp, Str.bytes_eq}
use Rattle.dir_bytes.specs.Fields as fields
use Rattle.dir_bytes.specs.FieldTexts.{hex_text, base64_text}
use Rattle.dir_values.specs.declared.digest.{Fingerprint.Fingerprint, Digest1.Digest1, Digest2.Digest2}

-- the fingerprint that 40 hex digits spell, of either case
abbrev pub fingerprint : List ℕ → Option Fingerprint
fingerprint text = option_map (λ bytes. record { 0 = bytes }) (fields.hex 20 text)

-- the digest of a signing key that 40 hex digits spell, of either case
abbrev pub key_digest : List ℕ → Option Digest1
key_digest text = option_map (λ bytes. record { 0 = bytes }) (fields.hex 20 text)

-- the SHA-1 digest that 27 characters of strict base64 spell, without `=`
abbrev pub digest1 : List ℕ → Option Digest1
digest1 text = option_map (λ bytes. record { 0 = bytes }) (fields.base64 20 text)

-- the SHA-256 digest that 43 characters of strict base64 spell, without `=`
abbrev pub digest2 : List ℕ → Option Digest2
digest2 text = option_map (λ bytes. record { 0 = bytes }) (fields.base64 32 text)

-- 40 hex digits, in upper case
abbrev pub fingerprint_text : Fingerprint → List ℕ
fingerprint_text value = hex_text value.0

-- 27 characters of base64, without `=`
abbrev pub digest1_text : Digest1 → List ℕ
digest1_text value = base64_text value.0

-- 43 characters of base64, without `=`
abbrev pub digest2_text : Digest2 → List ℕ
digest2_text value = base64_text value.0

-- whether a comparison answers that the first comes before the second
abbrev pub is_less : Ordering → Bool
is_less Less = true
is_less Equal = false
is_less Greater = false

-- bytes that come before others: the first byte that differs decides, and a front comes first
abbrev pub bytes_below : List ℕ → List ℕ → Bool
bytes_below a b = is_less (slice_cmp nat_cmp a b)

-- an identity that comes before another, by their bytes
abbrev pub identity_below : Fingerprint → Fingerprint → Bool
identity_below a b = bytes_below a.0 b.0

-- whether two identities are one
abbrev pub same_identity : Fingerprint → Fingerprint → Bool
same_identity a b = bytes_eq a.0 b.0
