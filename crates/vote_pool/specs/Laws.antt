-- What a pool holds of each relay, in plain words.
use Rattle.std.specs.Prelude.{◌≡◌, true, false, Some}
use Rattle.dir_values.specs.{Digests.same_identity, declared.digest.Fingerprint.Fingerprint}
use Rattle.descriptor_doc.specs.declared.descriptor.Descriptor.{Descriptor}
use Rattle.vote_pool.specs.{declared.answers.Keep.TheVariants.Replaced, Ranks.{rank_of_descriptor, is_newer}}
use Rattle.vote_pool.specs.Pools.{Pooled, DescriptorsAscend, descriptor_for, answer_to, is_change, pool_after}

-- What is held of other relays stays, whatever the answer is.
abbrev pub OthersStay : Type 0
OthersStay = (pool : Pooled) (new : Descriptor) (identity : Fingerprint) → DescriptorsAscend pool.descriptors
    → same_identity new.identity identity ≡ false
    → descriptor_for (pool_after pool new).descriptors identity ≡ descriptor_for pool.descriptors identity

-- After a change the descriptor is the one that is held of its relay.
abbrev pub ChangesAreHeld : Type 0
ChangesAreHeld = (pool : Pooled) (new : Descriptor) → is_change (answer_to pool new) ≡ true
    → descriptor_for (pool_after pool new).descriptors new.identity ≡ Some new

-- One that is replaced was of the smaller rank.
abbrev pub ReplacedAreOlder : Type 0
ReplacedAreOlder = (pool : Pooled) (new held : Descriptor) → answer_to pool new ≡ Replaced
    → descriptor_for pool.descriptors new.identity ≡ Some held
    → is_newer (rank_of_descriptor new) (rank_of_descriptor held) ≡ true
