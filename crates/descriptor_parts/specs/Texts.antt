-- A descriptor and its own text (dir-spec, "Server descriptor format").
use Rattle.std.specs.Prelude.{◌≡◌, ℕ, List, length, Ok}
use Rattle.descriptor_doc.specs.{Reading.descriptor_of, declared.descriptor.Descriptor.Descriptor}

-- The descriptor is the one that its own text is read as, whole: each of its facts, its identity, its digest and its
-- text are those of that text.
abbrev pub IsOfText : Descriptor → Type 0
IsOfText d = descriptor_of d.text ≡ Ok (d, length d.text)

-- A descriptor that is read of an input is such.
abbrev pub DescriptorsAreOfTheirText : Type 0
DescriptorsAreOfTheirText = (input : List ℕ) (d : Descriptor) (used : ℕ) → descriptor_of input ≡ Ok (d, used)
    → IsOfText d
