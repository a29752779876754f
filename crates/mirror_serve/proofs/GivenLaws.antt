-- What a mirror gives is what it holds.
use Rattle.std.proofs.{Common.{◌≡◌, ℕ, List, [], ◌∷◌, Option, Some, None, sym}, lemmas.Option.{none-some, same_Some}}
use Rattle.key_port.specs.Answers.{Rules}
use Rattle.http_words.specs.Found.{unless_empty}
use Rattle.mirror_core.specs.{Answers.{certs_text, consensus_text}, Sound.{IsHeldByMajority, IsSound}}
use Rattle.mirror_core.specs.States.{HeldConsensus, Mirrored}
use Rattle.mirror_serve.specs.GivenTexts.{AreCheckedTexts, IsSignedText}

of_held : (rules : Rules) (mirror : Mirrored) (held : Option HeldConsensus) (text : List ℕ)
    → IsHeldByMajority rules mirror.roster held → consensus_text (record mirror { held = held }) ≡ Some text
    → IsSignedText rules mirror.roster text
of_held rules mirror None text signed is = absurd (none-some text is)
of_held rules mirror (Some held) text signed is =
    record { held = held; text_is = sym (same_Some held.bytes text is); signed = signed }

-- the consensus
pub signed_text : (rules : Rules) (mirror : Mirrored) (text : List ℕ) → IsSound rules mirror
    → consensus_text mirror ≡ Some text → IsSignedText rules mirror.roster text
signed_text rules mirror text sound is = of_held rules mirror mirror.held text sound.signed is

some_bytes : (bytes text : List ℕ) → unless_empty bytes ≡ Some text → text ≡ bytes
some_bytes [] text is = absurd (none-some text is)
some_bytes (byte ∷ bytes) text is = sym (same_Some (byte ∷ bytes) text is)

-- the certificates
pub checked_texts : (rules : Rules) (mirror : Mirrored) (text : List ℕ) → IsSound rules mirror
    → unless_empty (certs_text mirror) ≡ Some text → AreCheckedTexts rules mirror.roster text
checked_texts rules mirror text sound is =
    record { certs = mirror.certs; text_is = some_bytes (certs_text mirror) text is; checked = sound.checked }
