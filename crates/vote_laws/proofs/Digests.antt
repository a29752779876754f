-- A SHA-1 digest has twenty bytes, a SHA-256 digest thirty-two.
use Rattle.std.proofs.Common.{◌≡◌, ℕ, zero, suc, ◌*◌, ◌/◌, ◌<◌, List, [], ◌∷◌, length, arith, length-append}
use Rattle.std.{proofs.lemmas.List.Elements.{All-append, All-cons, All-head, All-nil, All-tail}, specs.Prelude.All}
use Rattle.std.specs.{Prelude.slice_index, Int.{byte_at, to_be_bytes, w32}}
use Rattle.base64.specs.GeneralPurpose.{IsBytes}
use Rattle.frame_values.specs.Ranges.{AreTwenty}
use Rattle.sha1.specs.Sha1.{digest_bytes, hash_after, padded_message, sha1}
use Rattle.sha2.specs.Sha256 as long
use Rattle.sha2.proofs.Facts256.{length-sha256}
use Rattle.group_laws.specs.Ranges.{AreThirtyTwo}

abbrev IsByte : ℕ → Type 0
IsByte n = n < 256

are_bytes : (bytes : List ℕ) → All IsByte bytes → IsBytes bytes
are_bytes [] all i = omega arith
are_bytes (b ∷ rest) all zero = All-head IsByte b rest all
are_bytes (b ∷ rest) all (suc i) = are_bytes rest (All-tail IsByte b rest all) i

a_byte : (i n : ℕ) → IsByte (byte_at i n)
a_byte zero n = omega arith
a_byte (suc i) n = omega arith

word_bytes : (n : ℕ) → All IsByte (to_be_bytes w32 n)
word_bytes n =
    All-cons IsByte (byte_at 3 n) (byte_at 2 n ∷ byte_at 1 n ∷ byte_at 0 n ∷ []) (a_byte 3 n)
    (All-cons IsByte (byte_at 2 n) (byte_at 1 n ∷ byte_at 0 n ∷ []) (a_byte 2 n)
    (All-cons IsByte (byte_at 1 n) (byte_at 0 n ∷ []) (a_byte 1 n)
    (All-cons IsByte (byte_at 0 n) [] (a_byte 0 n) (All-nil IsByte))))

-- ---- SHA-1

each_byte : (hash : List ℕ) (words : ℕ) → All IsByte (digest_bytes hash words)
unfolding digest_bytes
each_byte hash zero = All-nil IsByte
each_byte hash (suc n) =
    All-append IsByte (digest_bytes hash n) (to_be_bytes w32 (slice_index hash n)) (each_byte hash n)
    (word_bytes (slice_index hash n))

count : (hash : List ℕ) (words : ℕ) → length (digest_bytes hash words) ≡ 4 * words
unfolding digest_bytes
count hash zero = omega arith
count hash (suc n) =
    let before = count hash n in
    omega (arith, before, length-append (digest_bytes hash n) (to_be_bytes w32 (slice_index hash n)))

pub twenty : (message : List ℕ) → AreTwenty (sha1 message)
unfolding sha1
twenty message =
    let padded = padded_message message in
    let hash = hash_after padded (length padded / 64) in
    record { count = count hash 5; each = are_bytes (digest_bytes hash 5) (each_byte hash 5) }

-- ---- SHA-256

each_byte_of_long : (hash : List ℕ) (words : ℕ) → All IsByte (long.digest_bytes hash words)
unfolding long.digest_bytes
each_byte_of_long hash zero = All-nil IsByte
each_byte_of_long hash (suc n) =
    All-append IsByte (long.digest_bytes hash n) (to_be_bytes w32 (slice_index hash n)) (each_byte_of_long hash n)
    (word_bytes (slice_index hash n))

all_bytes : (message : List ℕ) → All IsByte (long.sha256 message)
unfolding long.sha256
all_bytes message = each_byte_of_long (long.final_hash long.initial_hash_256 message) 8

pub thirty_two : (message : List ℕ) → AreThirtyTwo (long.sha256 message)
thirty_two message = record {
  count = length-sha256 message;
  each = are_bytes (long.sha256 message) (all_bytes message);
}
