-- What a pool holds after descriptors were kept in turn, in plain words.
use Rattle.std.specs.Prelude.{◌≡◌, ◌⊎◌, ℕ, ◌≤◌, true, false, List, [], length, Contains, Option, Some, None}
use Rattle.std.specs.List.{fold}
use Rattle.dir_values.specs.{Digests.same_identity, declared.digest.Fingerprint.Fingerprint}
use Rattle.descriptor_doc.specs.declared.descriptor.Descriptor.{Descriptor}
use Rattle.vote_pool.specs.Pools.{DescriptorsAscend, Pooled, descriptor_for, most_changes, most_relays, pool_after}
use Rattle.vote_pool.specs.Ranks.{is_newer, rank_of_descriptor}

-- the pool after these descriptors were kept in turn, from one that holds none
abbrev pub pool_of : List Descriptor → Pooled
pool_of descriptors = fold pool_after (record { descriptors = []; changes = 0 }) descriptors

-- What is held of a relay, where so many descriptors are held of those that are such: one of its own that is such, and none
-- that is such is newer; or none, since none of its own is such, or since as many are held as may be.
abbrev pub IsNewest : (Descriptor → Type 0) → ℕ → Fingerprint → Option Descriptor → Type 0
IsNewest such count identity None =
    ((d : Descriptor) → such d → same_identity d.identity identity ≡ false) ⊎ (most_relays ≤ count)
IsNewest such count identity (Some held) =
    such held × (same_identity held.identity identity ≡ true)
    × ((d : Descriptor) → such d → same_identity d.identity identity ≡ true
    → is_newer (rank_of_descriptor d) (rank_of_descriptor held) ≡ false)

-- The descriptors that are held of those that are such: the newest of each relay.
pub record AreNewest (such : Descriptor → Type 0) (held : List Descriptor) : Type 0 where
  pub each : (identity : Fingerprint) → IsNewest such (length held) identity (descriptor_for held identity)

-- They ascend by identity, so that each relay has one at most, and are no more than may be.
pub record AscendAndFit (held : List Descriptor) : Type 0 where
  pub ascend : DescriptorsAscend held
  pub few : length held ≤ most_relays

-- Whatever descriptors are kept in turn, those that are held are so.
abbrev pub PoolsAscend : Type 0
PoolsAscend = (list : List Descriptor) → AscendAndFit (pool_of list).descriptors

-- Of descriptors that are kept in turn, no more than a pool may change, the newest of each relay is held.
abbrev pub NewestAreHeld : Type 0
NewestAreHeld = (list : List Descriptor) → length list ≤ most_changes
    → AreNewest (Contains list) (pool_of list).descriptors

-- two lists have the same members, in whatever order and however often
pub record SameMembers (l m : List Descriptor) : Type 0 where
  pub there : (d : Descriptor) → Contains l d → Contains m d
  pub back : (d : Descriptor) → Contains m d → Contains l d

-- Of two such lists with the same members, in whatever order and however often, neither descriptor that is held of a
-- relay is newer than the other.
abbrev pub PoolRanksAgree : Type 0
PoolRanksAgree = (l m : List Descriptor) (identity : Fingerprint) (a b : Descriptor) → SameMembers l m
    → length l ≤ most_changes → length m ≤ most_changes
    → descriptor_for (pool_of l).descriptors identity ≡ Some a
    → descriptor_for (pool_of m).descriptors identity ≡ Some b
    → (is_newer (rank_of_descriptor a) (rank_of_descriptor b) ≡ false)
    × (is_newer (rank_of_descriptor b) (rank_of_descriptor a) ≡ false)
