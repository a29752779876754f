-- A microdescriptor that was written is read again (dir-spec, "Computing microdescriptors").
use Rattle.std.specs.Prelude.{◌≡◌, ℕ, List, [], ◌∷◌, ◌++◌, length, Ok}
use Rattle.dirdoc_grammar.specs.Writing.{IsWritable}
use Rattle.micro_desc.specs.{declared.micro.Micro.Micro, Reading.{max_micro, micro_of}, Texts.micro_text}
use Rattle.micro_desc.specs.Texts.{onion_key_item}
use Rattle.descriptor_laws.specs.MicroRanges.{IsInRange}

-- A microdescriptor that was written is read again: what is read says the same, and ends with the text.
abbrev pub MicrosAreReadAgain : Type 0
MicrosAreReadAgain = (micro : Micro) → IsInRange micro
    → micro_of (micro_text micro) ≡ Ok (micro, length (micro_text micro))

-- the text of microdescriptors, one after the other
abbrev pub micros_text : List Micro → List ℕ
micros_text [] = []
micros_text (micro ∷ micros) = micro_text micro ++ micros_text micros

-- The same where others follow: it ends where its text ends. The first item of the next one is looked at as well, and
-- has to stand within the limit.
abbrev pub MicrosEndBeforeTheNext : Type 0
MicrosEndBeforeTheNext = (micro next : Micro) (others : List Micro) → IsInRange micro
    → IsWritable max_micro (length (micro_text micro)) (onion_key_item next.onion_key)
    → micro_of (micros_text (micro ∷ next ∷ others)) ≡ Ok (micro, length (micro_text micro))
