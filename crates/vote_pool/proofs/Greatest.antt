-- Of two descriptors of a relay the one of greater rank is held, and of other relays what was.
use Rattle.std.proofs.Common.{◌≡◌, ℕ, ◌<◌, Bool, true, false, List, [], ◌∷◌, ◌++◌, filter, find, subst, Option, Some}
use Rattle.std.proofs.{Common.{refl, sym, ap, ◌∙◌, ⊎_elim, arith}, lemmas.Bool.{cases_order, true≢false}}
use Rattle.std.proofs.lemmas.{Bool.{false_from_ne_true, Decides.nat_tests}, List.Elements.{All-head, All-tail}}
use Rattle.std.{proofs.lemmas.List.Elements.{All-weaker, filter_passes}, specs.Prelude.{All, nat_eq, if◌then◌else◌}}
use Rattle.std.specs.{Str.bytes_eq, Cmp.Lexicographic.bytes_decides}
use Rattle.dir_values.specs.Digests.{bytes_below, identity_below, same_identity}
use Rattle.dir_values.{specs.declared.digest.Fingerprint.Fingerprint, proofs.Orders.{below-trans, below_or_same}}
use Rattle.dir_values.proofs.Orders.{same_text, apart, AllPairs-head, AllPairs-tail}
use Rattle.descriptor_doc.specs.declared.descriptor.Descriptor.{Descriptor}
use Rattle.vote_pool.specs.declared.{answers.Keep.TheVariants.Replaced, rank.DescriptorRank.DescriptorRank}
use Rattle.vote_pool.specs.{Ranks.{rank_of_descriptor, is_same_rank, is_newer}, Pools.DescriptorsAscend}
use Rattle.vote_pool.specs.Pools.{descriptor_for, descriptors_with, answer_beside, answer_to, is_change, pool_after}
use Rattle.vote_pool.specs.{Pools.most_changes, Laws.{OthersStay, ChangesAreHeld, ReplacedAreOlder}}
use Rattle.vote_pool.proofs.Placing.{Before, not_back, not_before_same, all_behind}

-- ---- after a change

find_behind : {X : Type 0} (p : X → Bool) (xs ys : List X) → All (λ x. p x ≡ false) xs
    → find p (xs ++ ys) ≡ find p ys
find_behind p [] ys h = refl
find_behind p (x ∷ xs) ys h =
    let first : p x ≡ false = All-head (λ x. p x ≡ false) x xs h in
    rw first (find_behind p xs ys (All-tail (λ x. p x ≡ false) x xs h))

held_with : (xs : List Descriptor) (new : Descriptor)
    → descriptor_for (descriptors_with xs new) new.identity ≡ Some new
held_with xs new =
    let below = λ (held : Descriptor). identity_below held.identity new.identity in
    let above = λ (held : Descriptor). identity_below new.identity held.identity in
    let its = λ (held : Descriptor). same_identity held.identity new.identity in
    let itself : same_identity new.identity new.identity ≡ true =
    (bytes_decides new.identity.0 new.identity.0).1 refl in
    find_behind its (filter below xs) (new ∷ filter above xs)
    (All-weaker (λ (held : Descriptor). below held ≡ true) (λ (held : Descriptor). its held ≡ false)
    (λ held. apart held.identity.0 new.identity.0) (filter below xs) (filter_passes below xs))
    ∙ ap (λ (b : Bool). if b then Some new else descriptor_for (filter above xs) new.identity) itself

pub changes_are_held : ChangesAreHeld
changes_are_held pool new change = rw change (held_with pool.descriptors new)

-- ---- other relays

others_by : (b s : Bool) (x : Descriptor) (xs : List Descriptor) (new : Descriptor) (identity : Fingerprint)
    → identity_below x.identity new.identity ≡ b → same_identity x.identity new.identity ≡ s → All (Before x) xs
    → same_identity new.identity identity ≡ false
    → descriptor_for (descriptors_with xs new) identity ≡ descriptor_for xs identity
    → descriptor_for (descriptors_with (x ∷ xs) new) identity ≡ descriptor_for (x ∷ xs) identity
others_by true s x xs new identity e f up other more =
    let back : identity_below new.identity x.identity ≡ false = not_back x.identity.0 new.identity.0 e in
    rw (e, back)
    (ap (λ (held : Option Descriptor). if same_identity x.identity identity then Some x else held) more)
others_by false true x xs new identity e f up other more =
    let same : x.identity.0 ≡ new.identity.0 = same_text x.identity.0 new.identity.0 f in
    let back : identity_below new.identity x.identity ≡ false = not_before_same x.identity.0 new.identity.0 same in
    let behind = all_behind xs new (All-weaker (Before x) (Before new)
    (λ later before. subst (λ (text : List ℕ). bytes_below text later.identity.0 ≡ true) same before) xs up) in
    let differs : same_identity x.identity identity ≡ false =
    ap (λ (text : List ℕ). bytes_eq text identity.0) same ∙ other in
    rw (e, back, behind.none, behind.each, other, differs) refl
others_by false false x xs new identity e f up other more =
    let first : identity_below new.identity x.identity ≡ true = below_or_same x.identity.0 new.identity.0 e f in
    let behind = all_behind xs new (All-weaker (Before x) (Before new)
    (λ later before. below-trans new.identity.0 x.identity.0 later.identity.0 first before) xs up) in
    rw (e, first, behind.none, behind.each, other) refl

others_with : (xs : List Descriptor) (new : Descriptor) (identity : Fingerprint) → DescriptorsAscend xs
    → same_identity new.identity identity ≡ false
    → descriptor_for (descriptors_with xs new) identity ≡ descriptor_for xs identity
others_with [] new identity up other = rw other refl
others_with (x ∷ xs) new identity up other =
    others_by _ _ x xs new identity refl refl (AllPairs-head Before x xs up) other
    (others_with xs new identity (AllPairs-tail Before x xs up) other)

pub others_stay : OthersStay
others_stay pool new identity up other = by (is_change (answer_to pool new)) refl
  where
    by : (b : Bool) → is_change (answer_to pool new) ≡ b
        → descriptor_for (pool_after pool new).descriptors identity ≡ descriptor_for pool.descriptors identity
    by true e = rw e (others_with pool.descriptors new identity up other)
    by false e = rw e refl

-- ---- the greater rank

same_is : (a b : DescriptorRank) → a.published ≡ b.published → bytes_eq a.digest.0 b.digest.0 ≡ true
    → is_same_rank a b ≡ true
same_is a b e same = rw same (grind (arith, nat_tests))

later : (a b : DescriptorRank) → b.published < a.published → is_newer a b ≡ true
later a b lt = grind (arith, nat_tests)

tied : (a b : DescriptorRank) → a.published ≡ b.published → bytes_below b.digest.0 a.digest.0 ≡ true
    → is_newer a b ≡ true
tied a b e less = rw less (grind (arith, nat_tests))

-- of two ranks that are not one the one is greater, or the other
pub other_newer : (a b : DescriptorRank) → is_same_rank a b ≡ false → is_newer a b ≡ false → is_newer b a ≡ true
other_newer a b differ not_newer =
    ⊎_elim (λ (one : a.published ≡ b.published).
    tied b a (sym one) (below_or_same b.digest.0 a.digest.0
    (false_from_ne_true (bytes_below b.digest.0 a.digest.0) (λ less. true≢false (sym (tied a b one less) ∙ not_newer)))
    (false_from_ne_true (bytes_eq b.digest.0 a.digest.0) (λ is. true≢false (sym (same_is a b one
    ((bytes_decides a.digest.0 b.digest.0).1 (sym (same_text b.digest.0 a.digest.0 is)))) ∙ differ)))))
    (λ rest. ⊎_elim (λ (less : a.published < b.published). later b a less)
    (λ (more : b.published < a.published). absurd (true≢false (sym (later a b more) ∙ not_newer))) rest)
    (cases_order a.published b.published)

replaced_by : (s n w : Bool) (held new : DescriptorRank) (changes : ℕ) → is_same_rank held new ≡ s
    → is_newer held new ≡ n → nat_eq changes most_changes ≡ w → answer_beside held new changes ≡ Replaced
    → is_newer new held ≡ true
replaced_by true n w held new changes e f g is = let wrong = rw e at is in absurd cc
replaced_by false true w held new changes e f g is = let wrong = rw (e, f) at is in absurd cc
replaced_by false false w held new changes e f g is = other_newer held new e f

pub replaced_are_older : ReplacedAreOlder
replaced_are_older pool new held is there =
    let held_rank = rank_of_descriptor held in
    let new_rank = rank_of_descriptor new in
    let beside : answer_beside held_rank new_rank pool.changes ≡ Replaced = rw there at is in
    replaced_by _ _ _ held_rank new_rank pool.changes refl refl refl beside
