-- How long the parts of a request are.
use Rattle.std.proofs.{Common.{◌≡◌, ℕ, ◌+◌, ◌*◌, List, length, arith}, lemmas.Grind.common_steps}
use Rattle.hex.{specs.Hex.{encode_lower, lower_digits}, proofs.HexLemmas.length-encode_with}
use Rattle.key_port.specs.{declared.verifier.KeyKind.KeyKind, Requests.{hex_word, kind_word, request_text}}
use Rattle.key_port.specs.SignedLines.{sign_text, signed_line}

-- two digits a byte
pub length-encode_lower : (bytes : List ℕ) → length (encode_lower bytes) ≡ 2 * length bytes
length-encode_lower bytes = length-encode_with lower_digits bytes

-- a request has eleven bytes besides its four words
pub length-request_text : (kind : KeyKind) (key message signature : List ℕ)
    → length (request_text kind key message signature)
    ≡ 11 + length (kind_word kind) + length (hex_word key) + length (hex_word message) + length (hex_word signature)
unfolding request_text
length-request_text kind key message signature = grind (arith, common_steps)

-- a request for a signature has eight bytes besides its three words
pub length-sign_text : (kind : KeyKind) (key message : List ℕ)
    → length (sign_text kind key message) ≡ 8 + length (kind_word kind) + length (hex_word key) + length (hex_word message)
unfolding sign_text
length-sign_text kind key message = grind (arith, common_steps)

-- the line of a signature has four bytes besides its word
pub length-signed_line : (signature : List ℕ) → length (signed_line signature) ≡ 4 + length (hex_word signature)
unfolding signed_line
length-signed_line signature = grind (arith, common_steps)

pub ruleset sizes = (length-encode_lower, length-request_text, length-sign_text, length-signed_line)
