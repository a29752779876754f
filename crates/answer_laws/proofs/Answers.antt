-- What keeping a descriptor answers, by what is held of its relay, and how many are held then.
use Rattle.std.proofs.Common.{◌≡◌, ℕ, ◌+◌, ◌<◌, ◌≤◌, Bool, true, false, List, length, Option, Some, None, refl, sym, ap}
use Rattle.std.proofs.{Common.{◌∙◌, arith}, lemmas.{Bool.Decides.nat_tests, List.{length-set, Edits.length-insert}}}
use Rattle.std.{proofs.lemmas.List.Sums.prefix_len-le-length, specs.Prelude.{nat_eq, nat_le, is_some, option_map}}
use Rattle.std.specs.Prelude.{if◌then◌else◌}
use Rattle.dir_values.specs.Digests.{identity_below}
use Rattle.descriptor_doc.specs.declared.descriptor.Descriptor.{Descriptor}
use Rattle.vote_pool.specs.{Lending.{len_after, place_of, put_at, rank_at}, Pools.{DescriptorsAscend, Pooled}}
use Rattle.vote_pool.specs.Pools.{answer_beside, answer_for, answer_to, answer_to_new, descriptor_for, descriptors_with}
use Rattle.vote_pool.specs.{Pools.{is_change, most_changes, most_relays, pool_after}, Ranks.{is_newer, is_same_rank}}
use Rattle.vote_pool.specs.{Ranks.rank_of_descriptor, declared.rank.DescriptorRank.DescriptorRank}
use Rattle.vote_pool.proofs.{Greatest.other_newer, Placing.stands}
use Rattle.answer_laws.proofs.RankOrder.{newer_back, newer_same}

-- what keeping a descriptor comes to
pub data Case (pool : Pooled) (new : Descriptor) : Type 0 where
  worn : nat_eq pool.changes most_changes ≡ true → is_change (answer_to pool new) ≡ false → Case pool new
  full : descriptor_for pool.descriptors new.identity ≡ None → most_relays ≤ length pool.descriptors
      → is_change (answer_to pool new) ≡ false → Case pool new
  stays : (held : Descriptor) → descriptor_for pool.descriptors new.identity ≡ Some held
      → is_newer (rank_of_descriptor new) (rank_of_descriptor held) ≡ false
      → is_change (answer_to pool new) ≡ false → Case pool new
  added : descriptor_for pool.descriptors new.identity ≡ None → length pool.descriptors < most_relays
      → is_change (answer_to pool new) ≡ true → Case pool new
  replaced : (held : Descriptor) → descriptor_for pool.descriptors new.identity ≡ Some held
      → is_newer (rank_of_descriptor new) (rank_of_descriptor held) ≡ true
      → is_change (answer_to pool new) ≡ true → Case pool new

-- ---- what is answered

answered : (pool : Pooled) (new : Descriptor) (held : Option Descriptor)
    → descriptor_for pool.descriptors new.identity ≡ held
    → is_change (answer_to pool new)
    ≡ is_change (answer_for (option_map rank_of_descriptor held) (rank_of_descriptor new) (length pool.descriptors) pool.changes)
answered pool new held e =
    ap (λ (found : Option Descriptor). is_change
    (answer_for (option_map rank_of_descriptor found) (rank_of_descriptor new) (length pool.descriptors) pool.changes)) e

new_worn : (count changes : ℕ) → nat_eq changes most_changes ≡ true → is_change (answer_to_new count changes) ≡ false
new_worn count changes w = rw w refl

new_full : (count changes : ℕ) → nat_eq changes most_changes ≡ false → nat_le most_relays count ≡ true
    → is_change (answer_to_new count changes) ≡ false
new_full count changes w f = rw (w, f) refl

new_kept : (count changes : ℕ) → nat_eq changes most_changes ≡ false → nat_le most_relays count ≡ false
    → is_change (answer_to_new count changes) ≡ true
new_kept count changes w f = rw (w, f) refl

old_same : (held new : DescriptorRank) (changes : ℕ) → is_same_rank held new ≡ true
    → is_change (answer_beside held new changes) ≡ false
old_same held new changes s = rw s refl

old_newer : (held new : DescriptorRank) (changes : ℕ) → is_same_rank held new ≡ false → is_newer held new ≡ true
    → is_change (answer_beside held new changes) ≡ false
old_newer held new changes s n = rw (s, n) refl

old_worn : (held new : DescriptorRank) (changes : ℕ) → is_same_rank held new ≡ false → is_newer held new ≡ false
    → nat_eq changes most_changes ≡ true → is_change (answer_beside held new changes) ≡ false
old_worn held new changes s n w = rw (s, n, w) refl

old_replaced : (held new : DescriptorRank) (changes : ℕ) → is_same_rank held new ≡ false
    → is_newer held new ≡ false → nat_eq changes most_changes ≡ false
    → is_change (answer_beside held new changes) ≡ true
old_replaced held new changes s n w = rw (s, n, w) refl

enough : (count : ℕ) → nat_le most_relays count ≡ true → most_relays ≤ count
enough count f = grind (arith, nat_tests, f)

fewer : (count : ℕ) → nat_le most_relays count ≡ false → count < most_relays
fewer count f = grind (arith, nat_tests, f)

by_none : (w f : Bool) (pool : Pooled) (new : Descriptor) → nat_eq pool.changes most_changes ≡ w
    → nat_le most_relays (length pool.descriptors) ≡ f → descriptor_for pool.descriptors new.identity ≡ None
    → Case pool new
by_none true f pool new w g e = worn w (answered pool new None e ∙ new_worn (length pool.descriptors) pool.changes w)
by_none false true pool new w g e =
    full e (enough (length pool.descriptors) g)
    (answered pool new None e ∙ new_full (length pool.descriptors) pool.changes w g)
by_none false false pool new w g e =
    added e (fewer (length pool.descriptors) g)
    (answered pool new None e ∙ new_kept (length pool.descriptors) pool.changes w g)

by_some : (w s n : Bool) (pool : Pooled) (new held : Descriptor) → nat_eq pool.changes most_changes ≡ w
    → is_same_rank (rank_of_descriptor held) (rank_of_descriptor new) ≡ s
    → is_newer (rank_of_descriptor held) (rank_of_descriptor new) ≡ n
    → descriptor_for pool.descriptors new.identity ≡ Some held → Case pool new
by_some w true n pool new held f g h e =
    stays held e (newer_same (rank_of_descriptor held) (rank_of_descriptor new) g)
    (answered pool new (Some held) e ∙ old_same (rank_of_descriptor held) (rank_of_descriptor new) pool.changes g)
by_some w false true pool new held f g h e =
    stays held e (newer_back (rank_of_descriptor held) (rank_of_descriptor new) h)
    (answered pool new (Some held) e ∙ old_newer (rank_of_descriptor held) (rank_of_descriptor new) pool.changes g h)
by_some true false false pool new held f g h e =
    worn f (answered pool new (Some held) e
    ∙ old_worn (rank_of_descriptor held) (rank_of_descriptor new) pool.changes g h f)
by_some false false false pool new held f g h e =
    replaced held e (other_newer (rank_of_descriptor held) (rank_of_descriptor new) g h)
    (answered pool new (Some held) e
    ∙ old_replaced (rank_of_descriptor held) (rank_of_descriptor new) pool.changes g h f)

by_held : (pool : Pooled) (new : Descriptor) (held : Option Descriptor)
    → descriptor_for pool.descriptors new.identity ≡ held → Case pool new
by_held pool new None e = by_none _ _ pool new refl refl e
by_held pool new (Some held) e = by_some _ _ _ pool new held refl refl refl e

pub case : (pool : Pooled) (new : Descriptor) → Case pool new
case pool new = by_held pool new (descriptor_for pool.descriptors new.identity) refl

-- ---- how many are held

put_len : (xs : List Descriptor) (place : ℕ) (b : Bool) (new : Descriptor) → place ≤ length xs
    → length (put_at xs place b new) ≡ len_after (length xs) b
put_len xs place true new within = length-set xs place new
put_len xs place false new within = length-insert xs place new within

-- with one more
pub len_with : (xs : List Descriptor) (new : Descriptor) (held : Option Descriptor) → DescriptorsAscend xs
    → descriptor_for xs new.identity ≡ held
    → length (descriptors_with xs new) ≡ len_after (length xs) (is_some (option_map rank_of_descriptor held))
len_with xs new held up e =
    let s = stands xs new up in
    let place = place_of xs new.identity in
    ap (λ (l : List Descriptor). length l) (sym s.put_is)
    ∙ put_len xs place (is_some (rank_at xs place new.identity)) new
    (prefix_len-le-length (λ (one : Descriptor). identity_below one.identity new.identity) xs)
    ∙ ap (λ (r : Option DescriptorRank). len_after (length xs) (is_some r)) s.held_is
    ∙ ap (λ (found : Option Descriptor). len_after (length xs) (is_some (option_map rank_of_descriptor found))) e

-- ---- what is held then

pub unchanged : (pool : Pooled) (new : Descriptor) → is_change (answer_to pool new) ≡ false
    → (pool_after pool new).descriptors ≡ pool.descriptors
unchanged pool new c = rw c refl

pub changed : (pool : Pooled) (new : Descriptor) → is_change (answer_to pool new) ≡ true
    → (pool_after pool new).descriptors ≡ descriptors_with pool.descriptors new
changed pool new c = rw c refl

count_by : (b : Bool) (changes : ℕ) → (if b then changes + 1 else changes) ≤ changes + 1
count_by true changes = omega arith
count_by false changes = omega arith

-- a descriptor changes it once at most
pub changes_once : (pool : Pooled) (new : Descriptor) → (pool_after pool new).changes ≤ pool.changes + 1
changes_once pool new = count_by (is_change (answer_to pool new)) pool.changes
