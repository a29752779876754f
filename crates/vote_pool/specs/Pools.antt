-- The descriptors that an authority holds of relays, one of each, and what keeping one more answers.
use Rattle.std.specs.Prelude.{◌≡◌, ℕ, ◌+◌, ◌≤◌, ◌<◌, nat_eq, nat_le, Bool, true, false, List, ◌∷◌, ◌++◌, length, filter}
use Rattle.std.specs.{Prelude.{AllPairs, Option, Some, None, if◌then◌else◌}, List.find, Option.option_map}
use Rattle.dir_values.specs.{Digests.{identity_below, same_identity}, declared.digest.Fingerprint.Fingerprint}
use Rattle.descriptor_doc.specs.declared.descriptor.Descriptor.{Descriptor}
use Rattle.vote_pool.specs.declared.answers.Keep.{Keep, TheVariants.{Kept, Replaced, Have, Older, Worn, PoolFull}}
use Rattle.vote_pool.specs.{declared.rank.DescriptorRank.DescriptorRank, Ranks.{rank_of_descriptor, is_same_rank}}
use Rattle.vote_pool.specs.Ranks.{is_newer}

-- ---- what is held

-- the descriptors that are held, ascending by identity, and how often they have changed
pub record Pooled : Type 0 where
  pub descriptors : List Descriptor
  pub changes : ℕ

-- so many relays may have a descriptor in a pool
abbrev pub most_relays : ℕ
most_relays = 16384

-- so often a pool may change
abbrev pub most_changes : ℕ
most_changes = 4294967295

-- descriptors in strictly ascending order of their identities, so that no two are of one relay
abbrev pub DescriptorsAscend : List Descriptor → Type 0
DescriptorsAscend descriptors =
    AllPairs (λ (earlier later : Descriptor). identity_below earlier.identity later.identity ≡ true) descriptors

-- What is kept of the descriptors that are held: they ascend, are few enough, and there is memory for as many as may
-- be.
pub record IsPooled (descriptors : List Descriptor) (capacity : ℕ) : Type 0 where
  pub ascend : DescriptorsAscend descriptors
  pub few : length descriptors ≤ most_relays
  pub room : most_relays ≤ capacity

-- the descriptor of a relay, where one is held
abbrev pub descriptor_for : List Descriptor → Fingerprint → Option Descriptor
descriptor_for descriptors identity = find (λ (held : Descriptor). same_identity held.identity identity) descriptors

-- the rank of a relay's descriptor, where one is held
abbrev pub rank_for : List Descriptor → Fingerprint → Option DescriptorRank
rank_for descriptors identity = option_map rank_of_descriptor (descriptor_for descriptors identity)

-- ---- keeping one more

-- descriptors with one more: those of smaller identities, this one, and those of greater identities, so that it
-- stands in place of any other of its relay
abbrev pub descriptors_with : List Descriptor → Descriptor → List Descriptor
descriptors_with descriptors new =
    filter (λ (held : Descriptor). identity_below held.identity new.identity) descriptors
    ++ new ∷ filter (λ (held : Descriptor). identity_below new.identity held.identity) descriptors

-- what is answered of a relay of which none is held, where so many descriptors are, after so many changes
abbrev pub answer_to_new : ℕ → ℕ → Keep
answer_to_new count changes =
    if nat_eq changes most_changes then Worn else if nat_le most_relays count then PoolFull else Kept

-- what is answered of a descriptor beside one that is held of its relay, after so many changes
abbrev pub answer_beside : DescriptorRank → DescriptorRank → ℕ → Keep
answer_beside held new changes =
    if is_same_rank held new then Have
    else if is_newer held new then Older held
    else if nat_eq changes most_changes then Worn
    else Replaced

-- what is answered of a descriptor of a rank, by what is held of its relay
abbrev pub answer_for : Option DescriptorRank → DescriptorRank → ℕ → ℕ → Keep
answer_for None new count changes = answer_to_new count changes
answer_for (Some held) new count changes = answer_beside held new changes

-- what keeping a descriptor among others answers, after so many changes
abbrev pub answer_among : List Descriptor → ℕ → Descriptor → Keep
answer_among descriptors changes new =
    answer_for (rank_for descriptors new.identity) (rank_of_descriptor new) (length descriptors) changes

-- what keeping a descriptor in a pool answers
abbrev pub answer_to : Pooled → Descriptor → Keep
answer_to pool new = answer_among pool.descriptors pool.changes new

-- ---- the pool after that

-- whether an answer is that of a change
abbrev pub is_change : Keep → Bool
is_change Kept = true
is_change Replaced = true
is_change Have = false
is_change (Older held) = false
is_change Worn = false
is_change PoolFull = false

-- A change is counted only where so many more may follow.
abbrev pub MayChange : ℕ → Keep → Type 0
MayChange changes answer = is_change answer ≡ true → changes < most_changes

-- how many changes there were, with that of an answer
abbrev pub changes_after : ℕ → Keep → ℕ
changes_after changes answer = if is_change answer then changes + 1 else changes

-- the descriptors that are held after an answer
abbrev pub descriptors_after : List Descriptor → Descriptor → Keep → List Descriptor
descriptors_after descriptors new answer = if is_change answer then descriptors_with descriptors new else descriptors

-- the pool after a descriptor was kept, or was not
abbrev pub pool_after : Pooled → Descriptor → Pooled
pool_after pool new = record {
  descriptors = descriptors_after pool.descriptors new (answer_to pool new);
  changes = changes_after pool.changes (answer_to pool new);
}
