-- What is held of each relay is the newest of its own, whatever came.
use Rattle.std.proofs.Common.{◌≡◌, ℕ, zero, suc, ◌+◌, ◌<◌, ◌≤◌, ◌⊎◌, inl, inr, ⊎_elim, List, [], ◌∷◌, length, get_or}
use Rattle.std.{proofs.Common.{Option, Some, None, sym, subst, arith}, specs.{Prelude.Contains, List.fold}}
use Rattle.dir_values.specs.declared.digest.Fingerprint.{Fingerprint}
use Rattle.descriptor_doc.specs.declared.descriptor.Descriptor.{Descriptor}
use Rattle.vote_pool.specs.Pools.{Pooled, descriptor_for, most_changes, pool_after}
use Rattle.answer_laws.specs.Newest.{AreNewest, AscendAndFit, IsNewest, NewestAreHeld, PoolRanksAgree, pool_of}
use Rattle.answer_laws.proofs.{Answers.changes_once, OneMoreHeld.{fits_after, none_fit, Also}}
use Rattle.answer_laws.proofs.OneMoreHeld.{newest_after_one_descriptor}

-- ---- all that came

-- what is such is said in other words
alike : (such other : Descriptor → Type 0) (count : ℕ) (identity : Fingerprint) (held : Option Descriptor)
    → ((x : Descriptor) → such x → other x) → ((x : Descriptor) → other x → such x)
    → IsNewest such count identity held → IsNewest other count identity held
alike such other count identity None to back (inl none) = inl (λ x o. none x (back x o))
alike such other count identity None to back (inr many) = inr many
alike such other count identity (Some held) to back is = (to held is.0, is.1, λ x o. is.2 x (back x o))

said : (such other : Descriptor → Type 0) (xs : List Descriptor) → ((x : Descriptor) → such x → other x)
    → ((x : Descriptor) → other x → such x) → AreNewest such xs → AreNewest other xs
said such other xs to back are = record {
  each = λ identity. alike such other (length xs) identity (descriptor_for xs identity) to back (are.each identity);
}

at_by : (y x : Descriptor) (xs : List Descriptor) (k : ℕ) → k < length (y ∷ xs) → get_or (y ∷ xs) k x ≡ x
    → (x ≡ y) ⊎ Contains xs x
at_by y x xs zero within is = inl (sym is)
at_by y x xs (suc k) within is = inr (k, omega (arith, within), is)

-- one of a list is its first or one of the others
front_or : (y x : Descriptor) (xs : List Descriptor) → Contains (y ∷ xs) x → (x ≡ y) ⊎ Contains xs x
front_or y x xs c = at_by y x xs c.0 c.1 c.2

first_of : (y x : Descriptor) (xs : List Descriptor) → x ≡ y → Contains (y ∷ xs) x
first_of y x xs is = (0, omega arith, sym is)

later_of : (y x : Descriptor) (xs : List Descriptor) → Contains xs x → Contains (y ∷ xs) x
later_of y x xs c = (suc c.0, omega (arith, c.1), c.2)

no_member : (x : Descriptor) → Contains [] x → ⊥
no_member x c = omega (arith, c.1)

all_by : (such : Descriptor → Type 0) (pool : Pooled) (list : List Descriptor)
    → pool.changes + length list ≤ most_changes → AscendAndFit pool.descriptors → AreNewest such pool.descriptors
    → AreNewest (λ x. such x ⊎ Contains list x) (fold pool_after pool list).descriptors
all_by such pool [] few fit are =
    said such (λ x. such x ⊎ Contains [] x) pool.descriptors (λ x s. inl s)
    (λ x t. ⊎_elim (λ (s : such x). s) (λ (c : Contains [] x). absurd (no_member x c)) t) are
all_by such pool (new ∷ list) few fit are =
    said (λ x. Also such new x ⊎ Contains list x) (λ x. such x ⊎ Contains (new ∷ list) x)
    (fold pool_after (pool_after pool new) list).descriptors
    (λ x t. ⊎_elim
    (λ (a : Also such new x). ⊎_elim (λ (s : such x). inl s) (λ (is : x ≡ new). inr (first_of new x list is)) a)
    (λ (c : Contains list x). inr (later_of new x list c)) t)
    (λ x t. ⊎_elim (λ (s : such x). inl (inl s))
    (λ (c : Contains (new ∷ list) x). ⊎_elim (λ (is : x ≡ new). inl (inr is)) (λ (d : Contains list x). inr d)
    (front_or new x list c)) t)
    (all_by (Also such new) (pool_after pool new) list (omega (arith, changes_once pool new, few))
    (fits_after pool new fit) (newest_after_one_descriptor such pool new (omega (arith, few)) fit are))

none_such : AreNewest (λ (x : Descriptor). ⊥) []
none_such = record { each = λ identity. inl (λ x s. absurd s) }

pub newest_are_held : NewestAreHeld
newest_are_held list few =
    said (λ x. ⊥ ⊎ Contains list x) (Contains list) (pool_of list).descriptors
    (λ x t. ⊎_elim (λ (n : ⊥). absurd n) (λ (c : Contains list x). c) t) (λ x c. inr c)
    (all_by (λ x. ⊥) (record { descriptors = []; changes = 0 }) list (omega (arith, few)) none_fit none_such)

-- ---- in whatever order

held_of : (list : List Descriptor) (identity : Fingerprint) (a : Descriptor) → length list ≤ most_changes
    → descriptor_for (pool_of list).descriptors identity ≡ Some a
    → IsNewest (Contains list) (length (pool_of list).descriptors) identity (Some a)
held_of list identity a few e =
    subst (IsNewest (Contains list) (length (pool_of list).descriptors) identity) e
    ((newest_are_held list few).each identity)

pub pool_ranks_agree : PoolRanksAgree
pool_ranks_agree l m identity a b same few_l few_m in_l in_m =
    let of_l = held_of l identity a few_l in_l in
    let of_m = held_of m identity b few_m in_m in
    (of_m.2 a (same.there a of_l.0) of_l.1, of_l.2 b (same.back b of_m.0) of_m.1)
