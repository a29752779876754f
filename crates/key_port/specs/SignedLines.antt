-- The lines by which a key service is asked for a signature, and gives it.
use Rattle.std.specs.Prelude.{◌≡◌, ◌≢◌, ℕ, ◌≤◌, nat_eq, Bool, not, true, List, [], ◌∷◌, ◌++◌, length, take, codes, Some}
use Rattle.std.specs.{Prelude.None, declared.option.Option.Option, List.list_all, Io.KnownBytes.{Appends, Consumes}}
use Rattle.hex.specs.Hex.{IsBytes}
use Rattle.key_port.specs.{declared.{verifier.KeyKind.KeyKind, signer.SignAnswer.SignAnswer}, Requests.hex_word}
use Rattle.key_port.specs.Requests.{kind_word, line_limit}
use Rattle.key_port.specs.declared.signer.SignAnswer.TheVariants as sign

-- the words `sign`, the kind, the key and the message, with single spaces, and NL
unfoldable pub sign_text : KeyKind → List ℕ → List ℕ → List ℕ
sign_text kind key message = codes "sign " ++ kind_word kind ++ codes " " ++ hex_word key ++ codes " " ++ hex_word message ++ codes "\n"

-- the words `ok` and a signature, with a space, and NL
unfoldable pub signed_line : List ℕ → List ℕ
signed_line signature = codes "ok " ++ hex_word signature ++ codes "\n"

-- the whole request was written where the service answered, and else a front of it
abbrev pub AsksToSign : Option (List ℕ) → Option (List ℕ) → List ℕ → SignAnswer → Type 0
AsksToSign old new request (sign.Signed signature) = Appends old new request
AsksToSign old new request sign.Fault = (sent : ℕ) × Appends old new (take sent request)
AsksToSign old new request sign.Memory = Appends old new request

-- a signature was read as its line, and nothing behind it; so was one for which there was no memory
abbrev pub HearsSignature : Option (List ℕ) → Option (List ℕ) → SignAnswer → Type 0
HearsSignature old new (sign.Signed signature) = Consumes old new (signed_line signature)
HearsSignature old new sign.Fault = Unit {0}
HearsSignature old new sign.Memory = (signature : List ℕ) × Consumes old new (signed_line signature)

-- an answer of which no byte came is a fault
abbrev pub signed_or_fault : Option SignAnswer → SignAnswer
signed_or_fault (Some result) = result
signed_or_fault None = sign.Fault

-- no line of a signature begins these bytes, but one that is too long
abbrev pub GivesNone : List ℕ → Type 0
GivesNone bytes = (signature more : List ℕ) → IsBytes signature → length (signed_line signature) ≤ line_limit → bytes ≢ signed_line signature ++ more

-- a fault is answered only to bytes that begin with no line of a signature
abbrev pub FaultsByBytes : List ℕ → SignAnswer → Type 0
FaultsByBytes bytes (sign.Signed signature) = Unit {0}
FaultsByBytes bytes sign.Fault = GivesNone bytes
FaultsByBytes bytes sign.Memory = Unit {0}

-- a signature, or want of memory for it, comes of its line alone, and a fault of each other line
abbrev pub IsSignedLine : List ℕ → SignAnswer → Type 0
IsSignedLine line (sign.Signed signature) = line ≡ signed_line signature
IsSignedLine line sign.Fault = (signature : List ℕ) → IsBytes signature → line ≢ signed_line signature
IsSignedLine line sign.Memory = (signature : List ℕ) × (line ≡ signed_line signature)

-- whether no NL stands in the bytes
abbrev pub has_no_end : List ℕ → Bool
has_no_end bytes = list_all (λ byte. not (nat_eq byte 10)) bytes

-- a line with its NL, which stands at its end alone
abbrev pub IsLine : List ℕ → Type 0
IsLine line = (front : List ℕ) × (line ≡ front ++ (10 ∷ [])) × (has_no_end front ≡ true)
