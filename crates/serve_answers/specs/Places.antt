-- What the private functions of this crate say.
use Rattle.std.specs.{Prelude.{ℕ, Bool, ◌||◌, List}, List.{filter_map, list_any, slice_get}, Str.bytes_eq}
use Rattle.descriptor_doc.specs.declared.descriptor.Descriptor.{Descriptor}
use Rattle.vote_pool.specs.Summaries.{family_digest_of, micro_digest_of}

-- the descriptors at places
abbrev pub at_places : List Descriptor → List ℕ → List Descriptor
at_places descriptors places = filter_map (slice_get descriptors) places

-- whether one of two digests is among these
abbrev pub has_one : List (List ℕ) → List ℕ → List ℕ → Bool
has_one digests first second =
    list_any (λ digest. bytes_eq digest first) digests || list_any (λ digest. bytes_eq digest second) digests

-- whether a microdescriptor of a descriptor has one of these digests
abbrev pub is_asked : List (List ℕ) → Descriptor → Bool
is_asked digests descriptor = has_one digests (micro_digest_of descriptor).0 (family_digest_of descriptor).0
