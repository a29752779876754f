-- What is read of a microdescriptor is in range (dir-spec, "Computing microdescriptors").
use Rattle.std.specs.Prelude.{◌≡◌, ℕ, List, Ok}
use Rattle.base64.specs.GeneralPurpose.{IsBytes}
use Rattle.micro_desc.specs.{declared.micro.Micro.Micro, Reading.micro_of}
use Rattle.descriptor_laws.specs.MicroRanges.{SaysInRange}

-- A microdescriptor that is read from bytes says what can be read.
abbrev pub MicrosReadAreInRange : Type 0
MicrosReadAreInRange = (bytes : List ℕ) (micro : Micro) (used : ℕ) → IsBytes bytes → micro_of bytes ≡ Ok (micro, used)
    → SaysInRange micro
