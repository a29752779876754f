-- Where a descriptor is put among those that ascend, and which is held of its relay.
use Rattle.std.proofs.Common.{◌≡◌, ℕ, suc, ◌+◌, ◌<◌, ◌≤◌, Bool, true, false, List, [], ◌∷◌, ◌++◌, length, get_or}
use Rattle.std.proofs.Common.{filter, find, Option, None, refl, sym, ap, ◌∙◌, subst, ⊎_elim, arith}
use Rattle.std.proofs.lemmas.{Bool.{cases_order, true≢false, false_from_ne_true}, List.Elements.{All-head, All-tail}}
use Rattle.std.proofs.lemmas.List.{Elements.{All-cons, All-append, All-weaker, filter_passes}, Kept.AllPairs-filter}
use Rattle.std.{proofs.lemmas.List.Sums.prefix_len_is, specs.{Prelude.{All, AllPairs, is_some}, List.prefix_len}}
use Rattle.std.specs.{List.Sorted.IsPartitionedBy, Cmp.Lexicographic.bytes_decides}
use Rattle.dir_values.specs.Digests.{bytes_below, identity_below, same_identity}
use Rattle.dir_values.{specs.declared.digest.Fingerprint.Fingerprint, proofs.Orders.{below-trans, below_or_same}}
use Rattle.dir_values.proofs.Orders.{same_text, apart, apart_back, AllPairs-cons, AllPairs-head, AllPairs-tail}
use Rattle.descriptor_doc.specs.declared.descriptor.Descriptor.{Descriptor}
use Rattle.vote_pool.specs.{Lending.{place_of, rank_at, put_at}, Pools.{DescriptorsAscend, descriptor_for, rank_for}}
use Rattle.vote_pool.specs.Pools.{descriptors_with, answer_for, answer_among, is_change, descriptors_after}
use Rattle.vote_pool.specs.{Ranks.rank_of_descriptor, declared.{answers.Keep.Keep, rank.DescriptorRank.DescriptorRank}}

-- ---- the order of identities

-- a descriptor comes before another
abbrev pub Before : Descriptor → Descriptor → Type 0
Before a b = identity_below a.identity b.identity ≡ true

-- no text comes before itself
not_itself : (a : List ℕ) → bytes_below a a ≡ false
not_itself a =
    false_from_ne_true (bytes_below a a) (λ below. true≢false (sym ((bytes_decides a a).1 refl) ∙ apart a a below))

-- nor before one that comes before it
pub not_back : (a b : List ℕ) → bytes_below a b ≡ true → bytes_below b a ≡ false
not_back a b below =
    false_from_ne_true (bytes_below b a) (λ back. true≢false (sym (below-trans a b a below back) ∙ not_itself a))

-- nor before one that is the same
pub not_before_same : (a b : List ℕ) → a ≡ b → bytes_below b a ≡ false
not_before_same a b same = ap (λ (c : List ℕ). bytes_below b c) same ∙ not_itself b

-- ---- lists

filter_none : {X : Type 0} (p : X → Bool) (xs : List X) → All (λ x. p x ≡ false) xs → filter p xs ≡ []
filter_none p [] h = refl
filter_none p (x ∷ xs) h =
    let first : p x ≡ false = All-head (λ x. p x ≡ false) x xs h in
    rw first (filter_none p xs (All-tail (λ x. p x ≡ false) x xs h))

filter_each : {X : Type 0} (p : X → Bool) (xs : List X) → All (λ x. p x ≡ true) xs → filter p xs ≡ xs
filter_each p [] h = refl
filter_each {X} p (x ∷ xs) h =
    let first : p x ≡ true = All-head (λ x. p x ≡ true) x xs h in
    rw first (ap (λ (l : List X). x ∷ l) (filter_each p xs (All-tail (λ x. p x ≡ true) x xs h)))

find_none : {X : Type 0} (p : X → Bool) (xs : List X) → All (λ x. p x ≡ false) xs → find p xs ≡ None
find_none p [] h = refl
find_none p (x ∷ xs) h =
    let first : p x ≡ false = All-head (λ x. p x ≡ false) x xs h in
    rw first (find_none p xs (All-tail (λ x. p x ≡ false) x xs h))

-- each pair of two lists together
AllPairs-append : {X : Type 0} (R : X → X → Type 0) (xs ys : List X) → AllPairs R xs → AllPairs R ys
    → All (λ x. All (R x) ys) xs → AllPairs R (xs ++ ys)
AllPairs-append R [] ys front back across = back
AllPairs-append R (x ∷ xs) ys front back across =
    AllPairs-cons R x (xs ++ ys)
    (All-append (R x) xs ys (AllPairs-head R x xs front) (All-head (λ x. All (R x) ys) x xs across))
    (AllPairs-append R xs ys (AllPairs-tail R x xs front) back (All-tail (λ x. All (R x) ys) x xs across))

-- how many pass a test in front, where all before a place pass and none does there
pub front_is : {X : Type 0} (p : X → Bool) (xs : List X) (k : ℕ) → k ≤ length xs
    → ((j : ℕ) (d : X) → j < k → p (get_or xs j d) ≡ true) → ((d : X) → k < length xs → p (get_or xs k d) ≡ false)
    → prefix_len p xs ≡ k
front_is p [] k within pass stop = omega (arith, within)
front_is p (x ∷ xs) k within pass stop = prefix_len_is p (x ∷ xs) k x within (λ j lt. pass j x lt) (λ lt. stop x lt)

-- ---- descriptors that ascend

-- they are parted by whether they come before an identity
pub parted : (xs : List Descriptor) (identity : Fingerprint) → DescriptorsAscend xs
    → IsPartitionedBy (λ (held : Descriptor). identity_below held.identity identity) xs
parted xs identity up i j d from within below =
    ⊎_elim (λ (same : i ≡ j).
    subst (λ (n : ℕ). identity_below (get_or xs n d).identity identity ≡ true) (sym same) below)
    (λ rest. ⊎_elim
    (λ (less : i < j).
    below-trans (get_or xs i d).identity.0 (get_or xs j d).identity.0 identity.0 (up i j d less within) below)
    (λ (more : j < i). absurd (omega (arith, from, more))) rest)
    (cases_order i j)

-- they ascend with one more
pub ascends : (xs : List Descriptor) (new : Descriptor) → DescriptorsAscend xs
    → DescriptorsAscend (descriptors_with xs new)
ascends xs new up =
    let below = λ (held : Descriptor). identity_below held.identity new.identity in
    let above = λ (held : Descriptor). identity_below new.identity held.identity in
    let behind : List Descriptor = filter above xs in
    let behind_new : All (Before new) behind = filter_passes above xs in
    AllPairs-append Before (filter below xs) (new ∷ behind) (AllPairs-filter Before below xs up)
    (AllPairs-cons Before new behind behind_new (AllPairs-filter Before above xs up))
    (All-weaker (λ (held : Descriptor). Before held new) (λ (held : Descriptor). All (Before held) (new ∷ behind))
    (λ held before. All-cons (Before held) new behind before
    (All-weaker (Before new) (Before held)
    (λ other after. below-trans held.identity.0 new.identity.0 other.identity.0 before after) behind behind_new))
    (filter below xs) (filter_passes below xs))

-- ---- the place of a descriptor

-- descriptors that all come behind one
pub record AllBehind (xs : List Descriptor) (new : Descriptor) : Type 0 where
  pub none : filter (λ (held : Descriptor). identity_below held.identity new.identity) xs ≡ []
  pub each : filter (λ (held : Descriptor). identity_below new.identity held.identity) xs ≡ xs
  pub absent : descriptor_for xs new.identity ≡ None

pub all_behind : (xs : List Descriptor) (new : Descriptor) → All (Before new) xs → AllBehind xs new
all_behind xs new all = record {
  none = filter_none (λ (held : Descriptor). identity_below held.identity new.identity) xs
      (All-weaker (Before new) (λ (held : Descriptor). identity_below held.identity new.identity ≡ false)
      (λ held. not_back new.identity.0 held.identity.0) xs all);
  each = filter_each (λ (held : Descriptor). identity_below new.identity held.identity) xs all;
  absent = find_none (λ (held : Descriptor). same_identity held.identity new.identity) xs
      (All-weaker (Before new) (λ (held : Descriptor). same_identity held.identity new.identity ≡ false)
      (λ held. apart_back new.identity.0 held.identity.0) xs all);
}

-- what stands at the place of a descriptor, and what putting it there comes to
pub record Stands (xs : List Descriptor) (new : Descriptor) : Type 0 where
  pub held_is : rank_at xs (place_of xs new.identity) new.identity ≡ rank_for xs new.identity
  pub put_is : put_at xs (place_of xs new.identity) (is_some (rank_at xs (place_of xs new.identity) new.identity)) new
      ≡ descriptors_with xs new

deeper : (replaces : Bool) (x : Descriptor) (xs : List Descriptor) (place : ℕ) (new : Descriptor)
    → put_at (x ∷ xs) (suc place) replaces new ≡ x ∷ put_at xs place replaces new
deeper true x xs place new = refl
deeper false x xs place new = refl

stands_by : (b s : Bool) (x : Descriptor) (xs : List Descriptor) (new : Descriptor)
    → identity_below x.identity new.identity ≡ b → same_identity x.identity new.identity ≡ s → All (Before x) xs
    → Stands xs new → Stands (x ∷ xs) new
stands_by true s x xs new e f up more =
    let one : 1 + place_of xs new.identity ≡ suc (place_of xs new.identity) = omega arith in
    let back : identity_below new.identity x.identity ≡ false = not_back x.identity.0 new.identity.0 e in
    let other : same_identity x.identity new.identity ≡ false = apart x.identity.0 new.identity.0 e in
    record {
      held_is = rw (e, one, other) more.held_is;
      put_is = rw (e, one, back)
          (deeper (is_some (rank_at xs (place_of xs new.identity) new.identity)) x xs (place_of xs new.identity) new
          ∙ ap (λ (l : List Descriptor). x ∷ l) more.put_is);
    }
stands_by false true x xs new e f up more =
    let same : x.identity.0 ≡ new.identity.0 = same_text x.identity.0 new.identity.0 f in
    let back : identity_below new.identity x.identity ≡ false = not_before_same x.identity.0 new.identity.0 same in
    let behind = all_behind xs new (All-weaker (Before x) (Before new)
    (λ other before. subst (λ (text : List ℕ). bytes_below text other.identity.0 ≡ true) same before) xs up) in
    record { held_is = rw (e, f) refl; put_is = rw (e, f, back, behind.none, behind.each) refl }
stands_by false false x xs new e f up more =
    let first : identity_below new.identity x.identity ≡ true = below_or_same x.identity.0 new.identity.0 e f in
    let behind = all_behind xs new (All-weaker (Before x) (Before new)
    (λ other before. below-trans new.identity.0 x.identity.0 other.identity.0 first before) xs up) in
    record { held_is = rw (e, f, behind.absent) refl; put_is = rw (e, f, first, behind.none, behind.each) refl }

pub stands : (xs : List Descriptor) (new : Descriptor) → DescriptorsAscend xs → Stands xs new
stands [] new up = record { held_is = refl; put_is = refl }
stands (x ∷ xs) new up =
    stands_by _ _ x xs new refl refl (AllPairs-head Before x xs up) (stands xs new (AllPairs-tail Before x xs up))

-- ---- the same, as the code finds it: an identity, a place, and the rank that is held there

pub record Found (xs : List Descriptor) (new : Descriptor) (identity : Fingerprint) (place : ℕ)
    (held : Option DescriptorRank) : Type 0 where
  pub ascend : DescriptorsAscend xs
  pub identity_is : identity ≡ new.identity
  pub place_is : place ≡ place_of xs identity
  pub held_is : held ≡ rank_at xs place identity

place_for : (xs : List Descriptor) (new : Descriptor) (identity : Fingerprint) (place : ℕ)
    (held : Option DescriptorRank) → Found xs new identity place held → place ≡ place_of xs new.identity
place_for xs new identity place held found =
    found.place_is ∙ ap (λ (one : Fingerprint). place_of xs one) found.identity_is

held_for : (xs : List Descriptor) (new : Descriptor) (identity : Fingerprint) (place : ℕ)
    (held : Option DescriptorRank) → Found xs new identity place held
    → held ≡ rank_at xs (place_of xs new.identity) new.identity
held_for xs new identity place held found =
    found.held_is
    ∙ ap (λ (one : Fingerprint). rank_at xs place one) found.identity_is
    ∙ ap (λ (at : ℕ). rank_at xs at new.identity) (place_for xs new identity place held found)

-- what is answered
pub answered : (xs : List Descriptor) (new : Descriptor) (identity : Fingerprint) (place : ℕ)
    (held : Option DescriptorRank) (rank : DescriptorRank) (count changes : ℕ) (answer : Keep)
    → Found xs new identity place held → rank ≡ rank_of_descriptor new → count ≡ length xs
    → answer ≡ answer_for held rank count changes → answer ≡ answer_among xs changes new
answered xs new identity place held rank count changes answer found rank_is count_is is =
    is
    ∙ ap (λ (other : Option DescriptorRank). answer_for other rank count changes)
    (held_for xs new identity place held found ∙ (stands xs new found.ascend).held_is)
    ∙ ap (λ (one : DescriptorRank). answer_for (rank_for xs new.identity) one count changes) rank_is
    ∙ ap (λ (many : ℕ). answer_for (rank_for xs new.identity) (rank_of_descriptor new) many changes) count_is

-- what is held after a change
pub changed : (xs : List Descriptor) (new : Descriptor) (identity : Fingerprint) (place : ℕ)
    (held : Option DescriptorRank) (replaces : Bool) (answer : Keep) (after : List Descriptor)
    → Found xs new identity place held → replaces ≡ is_some held → is_change answer ≡ true
    → after ≡ put_at xs place replaces new → after ≡ descriptors_after xs new answer
changed xs new identity place held replaces answer after found some change is =
    let put : after ≡ descriptors_with xs new =
    is
    ∙ ap (λ (at : ℕ). put_at xs at replaces new) (place_for xs new identity place held found)
    ∙ ap (λ (b : Bool). put_at xs (place_of xs new.identity) b new)
    (some ∙ ap (λ (other : Option DescriptorRank). is_some other) (held_for xs new identity place held found))
    ∙ (stands xs new found.ascend).put_is in
    rw change put

-- the descriptors ascend after each answer
pub after_ascends : (xs : List Descriptor) (new : Descriptor) (answer : Keep) → DescriptorsAscend xs
    → DescriptorsAscend (descriptors_after xs new answer)
after_ascends xs new answer up = by (is_change answer) refl
  where
    by : (b : Bool) → is_change answer ≡ b → DescriptorsAscend (descriptors_after xs new answer)
    by true e = rw e (ascends xs new up)
    by false e = rw e up
