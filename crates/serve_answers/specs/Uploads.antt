-- What the body of an uploaded descriptor is.
use Rattle.std.specs.Prelude.{ℕ, List}
use Rattle.count_terms.specs.declared.newest.Newest.{Newest}
use Rattle.descriptor_doc.specs.{Reading.descriptor_under, declared.descriptor.Descriptor.Descriptor}
use Rattle.blank_lines.specs.Keywords.{before_extra}
use Rattle.lone_vote.specs.Alone.{Stands}

-- the body is a descriptor, as an authority reads it whose newest method is this, and then nothing but blank lines, up to an
-- `extra-info` line if there is one
abbrev pub IsDescriptor : Newest → List ℕ → Descriptor → Type 0
IsDescriptor newest body descriptor = Stands (descriptor_under newest) before_extra body descriptor
