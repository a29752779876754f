-- What the private functions of this crate say.
use Rattle.std.specs.Prelude.{ℕ, ◌+◌, Bool, List, insert, Option, Some, None, slice_get, slice_set, if◌then◌else◌}
use Rattle.std.specs.List.{prefix_len}
use Rattle.dir_values.specs.{Digests.{identity_below, same_identity}, declared.digest.Fingerprint.Fingerprint}
use Rattle.descriptor_doc.specs.declared.descriptor.Descriptor.{Descriptor}
use Rattle.vote_pool.specs.{declared.rank.DescriptorRank.DescriptorRank, Ranks.rank_of_descriptor}

-- how many of the descriptors come before an identity
abbrev pub place_of : List Descriptor → Fingerprint → ℕ
place_of descriptors identity = prefix_len (λ (held : Descriptor). identity_below held.identity identity) descriptors

-- the rank of a descriptor, if it is of the identity
abbrev pub rank_if_of : Option Descriptor → Fingerprint → Option DescriptorRank
rank_if_of None identity = None
rank_if_of (Some held) identity =
    if same_identity held.identity identity then Some (rank_of_descriptor held) else None

-- the rank of the descriptor at a place, if it is of the identity
abbrev pub rank_at : List Descriptor → ℕ → Fingerprint → Option DescriptorRank
rank_at descriptors place identity = rank_if_of (slice_get descriptors place) identity

-- the descriptors with one at a place, in place of the one that is there or before it
abbrev pub put_at : List Descriptor → ℕ → Bool → Descriptor → List Descriptor
put_at descriptors place replaces new =
    if replaces then slice_set descriptors place new else insert descriptors place new

-- how many there are then
abbrev pub len_after : ℕ → Bool → ℕ
len_after len replaces = if replaces then len else len + 1
