-- What is read of a server descriptor says what can be written (dir-spec, "Server descriptor format").
use Rattle.std.specs.Prelude.{◌≡◌, ℕ, List, Ok}
use Rattle.base64.specs.GeneralPurpose.{IsBytes}
use Rattle.descriptor_doc.specs.{Reading.descriptor_of, declared.descriptor.Descriptor.Descriptor}
use Rattle.descriptor_laws.specs.Ranges.{SaysInRange}

-- Each value of a descriptor that is read from bytes is one that can be written and read again.
abbrev pub ReadDescriptorsSayInRange : Type 0
ReadDescriptorsSayInRange = (input : List ℕ) (d : Descriptor) (used : ℕ) → IsBytes input
    → descriptor_of input ≡ Ok (d, used) → SaysInRange d
