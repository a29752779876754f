-- Which of two descriptors of a relay is the newer.
use Rattle.std.specs.{Prelude.{Bool, ◌&&◌, ◌||◌, nat_lt, nat_eq}, Str.bytes_eq}
use Rattle.dir_values.specs.Digests.{bytes_below}
use Rattle.descriptor_doc.specs.declared.descriptor.Descriptor.{Descriptor}
use Rattle.vote_pool.specs.declared.rank.DescriptorRank.{DescriptorRank}

-- the rank of a descriptor: when it was made, and its digest
abbrev pub rank_of_descriptor : Descriptor → DescriptorRank
rank_of_descriptor descriptor = record { published = descriptor.published; digest = descriptor.digest }

-- whether two ranks are one
abbrev pub is_same_rank : DescriptorRank → DescriptorRank → Bool
is_same_rank a b = nat_eq a.published b.published && bytes_eq a.digest.0 b.digest.0

-- whether a rank is greater than another: published later, or at the same moment with the greater digest
abbrev pub is_newer : DescriptorRank → DescriptorRank → Bool
is_newer a b = nat_lt b.published a.published || (nat_eq a.published b.published && bytes_below b.digest.0 a.digest.0)
