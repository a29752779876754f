-- The line that asks a key service.
use Rattle.std.specs.Prelude.{ℕ, ◌==◌, if◌then◌else◌, List, ◌++◌, length, codes}
use Rattle.hex.specs.Hex.{encode_lower}
use Rattle.key_port.specs.declared.verifier.KeyKind.{KeyKind}
use Rattle.key_port.specs.declared.verifier.KeyKind.TheVariants as kind

-- how many bytes a line may have, with its NL
abbrev pub line_limit : ℕ
line_limit = 65536

-- the word of a key's kind
abbrev pub kind_word : KeyKind → List ℕ
kind_word kind.Identity = codes "identity"
kind_word kind.Signing = codes "signing"
kind_word kind.Ed25519 = codes "ed25519"

-- bytes in lower-case hex, and `-` where there are none
abbrev pub hex_word : List ℕ → List ℕ
hex_word bytes = if length bytes == 0 then codes "-" else encode_lower bytes

-- the words `verify`, the kind, the key, the message and the signature, with single spaces, and NL
unfoldable pub request_text : KeyKind → List ℕ → List ℕ → List ℕ → List ℕ
request_text kind key message signature =
    codes "verify " ++ kind_word kind ++ codes " " ++ hex_word key ++ codes " " ++ hex_word message ++ codes " " ++ hex_word signature ++ codes "\n"
