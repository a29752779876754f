-- The entries that are made one after the other are those of the relays that have one: of relays in order, those of
-- smaller identities stand before each.
use Rattle.std.proofs.Common.{◌≡◌, ℕ, Bool, true, false, List, [], ◌∷◌, ◌++◌, map, filter, get_or, Option, Some, None}
use Rattle.std.proofs.{Common.{refl, sym, ap, ap₂, ◌∙◌, arith, append_assoc}, lemmas.Bool.true≢false}
use Rattle.std.proofs.lemmas.{Bool.false_from_ne_true, Cmp.nat_list_cmp_total, List.Elements.{All-head, All-tail}}
use Rattle.std.proofs.lemmas.List.{Elements.{All-cons, All-append}, Folds.{list_any-append, list_any_none}}
use Rattle.std.specs.{Prelude.{All, AllPairs, not, ◌&&◌, ◌||◌, if◌then◌else◌}, List.list_any}
use Rattle.std.specs.{Cmp.Lexicographic.{slice_cmp, texts_ties, bytes_decides}, Ordering.{eq_by_cmp, nat_cmp}}
use Rattle.std.specs.Str.{bytes_eq}
use Rattle.std.specs.FinSet as set
use Rattle.count_terms.specs.declared.newest.Newest.{Newest}
use Rattle.dir_values.{proofs.Orders.{below-trans, apart, AllPairs-head, AllPairs-tail}, specs.Digests.bytes_below}
use Rattle.dir_values.specs.Digests.{identity_below}
use Rattle.descriptor_frame.specs.declared.certificate.EdCert.{EdCert}
use Rattle.flag_rules.specs.Rulings.{is_reject}
use Rattle.vote_terms.specs.declared.entry.EntryFacts.{EntryFacts}
use Rattle.vote_pool.specs.Kept.{signer_of}
use Rattle.vote_maker.specs.Listings.{JudgedRelay, entry_of_judged, goes_before, has_entry, made_entries, same_key}
use Rattle.vote_maker.specs.{Listings.takes_key, Private.{Keys, entries_from, is_free, is_listed, keys_after}}

-- ---- the keys of those before

-- whether a certificate's signer is this key
abbrev has_key : Option EdCert → List ℕ → Bool
has_key None key = false
has_key (Some certificate) key = bytes_eq certificate.signer key

-- whether a relay is not rejected and has this key
abbrev holds : List ℕ → JudgedRelay → Bool
holds key one = not (is_reject one.ruled.ruling) && has_key one.descriptor.identity_ed25519 key

-- these are the keys of the relays that are not rejected
abbrev AreKeysOf : Keys → List JudgedRelay → Type 0
AreKeysOf keys before = (key : List ℕ) → set.contains keys key ≡ list_any (holds key) before

-- the keys with those of one more relay
abbrev keys_with : Keys → JudgedRelay → Keys
keys_with keys one = keys_after keys one.ruled.ruling (signer_of one.descriptor.identity_ed25519)

no_keys : AreKeysOf set.empty []
no_keys key = set.contains-empty (slice_cmp nat_cmp) key

or_false : (b : Bool) → (b || false) ≡ b
or_false true = refl
or_false false = refl

or_swap : (a b : Bool) → (a || b) ≡ (b || a)
or_swap true true = refl
or_swap true false = refl
or_swap false true = refl
or_swap false false = refl

-- one more at the end
any_more : (p : JudgedRelay → Bool) (before : List JudgedRelay) (one : JudgedRelay)
    → list_any p (before ++ one ∷ []) ≡ (list_any p before || p one)
any_more p before one =
    list_any-append p before (one ∷ []) ∙ ap (λ (b : Bool). list_any p before || b) (or_false (p one))

-- a key is another exactly as the other is it
same_back : (a b : List ℕ) → eq_by_cmp (slice_cmp nat_cmp) a b ≡ bytes_eq b a
same_back a b = sym (texts_ties a b) ∙ by (bytes_eq a b) refl
  where
    by : (t : Bool) → bytes_eq a b ≡ t → bytes_eq a b ≡ bytes_eq b a
    by true is = is ∙ sym ((bytes_decides b a).1 (sym ((bytes_decides a b).0 is)))
    by false is =
        is ∙ sym (false_from_ne_true (bytes_eq b a) (λ back.
        true≢false (sym ((bytes_decides a b).1 (sym ((bytes_decides b a).0 back))) ∙ is)))

keys_more : (keys : Keys) (before : List JudgedRelay) (one : JudgedRelay) → AreKeysOf keys before
    → AreKeysOf (keys_with keys one) (before ++ one ∷ [])
keys_more keys before one are key = by (is_reject one.ruled.ruling) one.descriptor.identity_ed25519 refl refl
  where
    by : (rejected : Bool) (its : Option EdCert) → is_reject one.ruled.ruling ≡ rejected
        → one.descriptor.identity_ed25519 ≡ its
        → set.contains (keys_with keys one) key ≡ list_any (holds key) (before ++ one ∷ [])
    by true its r k =
        let none : holds key one ≡ false = rw r refl in
        (rw r (are key)) ∙ sym (any_more (holds key) before one
        ∙ ap (λ (b : Bool). list_any (holds key) before || b) none ∙ or_false (list_any (holds key) before))
    by false None r k =
        let none : holds key one ≡ false = rw (r, k) refl in
        (rw (r, k) (are key)) ∙ sym (any_more (holds key) before one
        ∙ ap (λ (b : Bool). list_any (holds key) before || b) none ∙ or_false (list_any (holds key) before))
    by false (Some its) r k =
        let here : holds key one ≡ bytes_eq its.signer key = rw (r, k) refl in
        let with_it : set.contains (keys_with keys one) key
        ≡ (eq_by_cmp (slice_cmp nat_cmp) key its.signer || set.contains keys key) =
        rw (r, k) (set.contains-insert nat_list_cmp_total keys its.signer key) in
        with_it ∙ ap₂ (λ (a b : Bool). a || b) (same_back key its.signer) (are key)
        ∙ or_swap (bytes_eq its.signer key) (list_any (holds key) before)
        ∙ sym (any_more (holds key) before one ∙ ap (λ (b : Bool). list_any (holds key) before || b) here)

-- ---- which of them are free

any_same : (p q : JudgedRelay → Bool) (xs : List JudgedRelay) → All (λ x. p x ≡ q x) xs
    → list_any p xs ≡ list_any q xs
any_same p q [] same = refl
any_same p q (x ∷ xs) same =
    ap₂ (λ (a b : Bool). a || b) (All-head (λ x. p x ≡ q x) x xs same)
    (any_same p q xs (All-tail (λ x. p x ≡ q x) x xs same))

-- a relay comes before another
abbrev below : JudgedRelay → JudgedRelay → Bool
below one other = identity_below one.descriptor.identity other.descriptor.identity

-- relays in order
abbrev pub RelaysAscend : List JudgedRelay → Type 0
RelaysAscend relays = AllPairs (λ (a b : JudgedRelay). below a b ≡ true) relays

-- all of these come before one
abbrev AllBelow : List JudgedRelay → JudgedRelay → Type 0
AllBelow before one = All (λ (o : JudgedRelay). below o one ≡ true) before

-- no text comes before itself, nor before one that comes before it
not_itself : (a : List ℕ) → bytes_below a a ≡ false
not_itself a =
    false_from_ne_true (bytes_below a a) (λ is. true≢false (sym ((bytes_decides a a).1 refl) ∙ apart a a is))

not_back : (a b : List ℕ) → bytes_below a b ≡ true → bytes_below b a ≡ false
not_back a b is =
    false_from_ne_true (bytes_below b a) (λ back. true≢false (sym (below-trans a b a is back) ∙ not_itself a))

goes_below : (o one : JudgedRelay) → below o one ≡ true → goes_before o one ≡ takes_key o one
goes_below o one is = rw is refl

goes_not : (o one : JudgedRelay) → below o one ≡ false → goes_before o one ≡ false
goes_not o one is = rw is refl

none_behind : (one : JudgedRelay) (rest : List JudgedRelay) → All (λ (o : JudgedRelay). below one o ≡ true) rest
    → All (λ (o : JudgedRelay). goes_before o one ≡ false) (one ∷ rest)
none_behind one rest above =
    All-cons (λ (o : JudgedRelay). goes_before o one ≡ false) one rest
    (goes_not one one (not_itself one.descriptor.identity.0))
    (λ k d lt. goes_not (get_or rest k d) one
    (not_back one.descriptor.identity.0 (get_or rest k d).descriptor.identity.0 (above k d lt)))

-- of all relays those that take the place of one stand before it
any_before : (before rest : List JudgedRelay) (one : JudgedRelay) → AllBelow before one
    → All (λ (o : JudgedRelay). below one o ≡ true) rest
    → list_any (λ (o : JudgedRelay). goes_before o one) (before ++ one ∷ rest)
    ≡ list_any (λ (o : JudgedRelay). takes_key o one) before
any_before before rest one below_it above =
    let p = λ (o : JudgedRelay). goes_before o one in
    list_any-append p before (one ∷ rest)
    ∙ ap₂ (λ (a b : Bool). a || b)
    (any_same p (λ (o : JudgedRelay). takes_key o one) before
    (λ k d lt. goes_below (get_or before k d) one (below_it k d lt)))
    (list_any_none p (one ∷ rest) (none_behind one rest above))
    ∙ or_false (list_any (λ (o : JudgedRelay). takes_key o one) before)

-- whether a key is free
free_is : (keys : Keys) (before : List JudgedRelay) (one : JudgedRelay) → AreKeysOf keys before
    → is_free keys (signer_of one.descriptor.identity_ed25519)
    ≡ not (list_any (λ (o : JudgedRelay). takes_key o one) before)
free_is keys before one are = by one.descriptor.identity_ed25519 refl
  where
    none_takes : (o : JudgedRelay) → one.descriptor.identity_ed25519 ≡ None → takes_key o one ≡ false
    none_takes o k = rw k (by_key (is_reject o.ruled.ruling) o.descriptor.identity_ed25519)
      where
        by_key : (r : Bool) (its : Option EdCert) → (not r && same_key its None) ≡ false
        by_key true its = refl
        by_key false None = refl
        by_key false (Some x) = refl

    takes_it : (o : JudgedRelay) (certificate : EdCert) → one.descriptor.identity_ed25519 ≡ Some certificate
        → takes_key o one ≡ holds certificate.signer o
    takes_it o certificate k =
        rw k (ap (λ (b : Bool). not (is_reject o.ruled.ruling) && b) (by_key o.descriptor.identity_ed25519))
      where
        by_key : (its : Option EdCert) → same_key its (Some certificate) ≡ has_key its certificate.signer
        by_key None = refl
        by_key (Some x) = refl

    by : (its : Option EdCert) → one.descriptor.identity_ed25519 ≡ its
        → is_free keys (signer_of one.descriptor.identity_ed25519)
        ≡ not (list_any (λ (o : JudgedRelay). takes_key o one) before)
    by None k =
        let none = list_any_none (λ (o : JudgedRelay). takes_key o one) before
        (λ i d lt. none_takes (get_or before i d) k) in
        ap (λ (x : Option EdCert). is_free keys (signer_of x)) k ∙ ap not (sym none)
    by (Some certificate) k =
        let same = any_same (λ (o : JudgedRelay). takes_key o one) (holds certificate.signer) before
        (λ i d lt. takes_it (get_or before i d) certificate k) in
        ap (λ (x : Option EdCert). is_free keys (signer_of x)) k ∙ ap not (are certificate.signer ∙ sym same)

listed_is : (keys : Keys) (before rest : List JudgedRelay) (one : JudgedRelay) → AreKeysOf keys before
    → AllBelow before one → All (λ (o : JudgedRelay). below one o ≡ true) rest
    → is_listed keys one.ruled.ruling (signer_of one.descriptor.identity_ed25519) ≡ has_entry (before ++ one ∷ rest) one
listed_is keys before rest one are below_it above =
    ap (λ (b : Bool). not (is_reject one.ruled.ruling) && b)
    (free_is keys before one are ∙ ap not (sym (any_before before rest one below_it above)))

-- ---- one after the other

if_listed : (newest : Newest) (p : JudgedRelay → Bool) (one : JudgedRelay) (rest : List JudgedRelay) (b : Bool) → p one ≡ b
    → (if b then entry_of_judged newest one ∷ [] else []) ++ map (entry_of_judged newest) (filter p rest)
    ≡ map (entry_of_judged newest) (filter p (one ∷ rest))
if_listed newest p one rest true is = rw is refl
if_listed newest p one rest false is = rw is refl

across_more : (before : List JudgedRelay) (one : JudgedRelay) (rest : List JudgedRelay) → All (AllBelow before) rest
    → All (λ (o : JudgedRelay). below one o ≡ true) rest → All (AllBelow (before ++ one ∷ [])) rest
across_more before one rest across above k d lt =
    All-append (λ (o : JudgedRelay). below o (get_or rest k d) ≡ true) before (one ∷ []) (across k d lt)
    (All-cons (λ (o : JudgedRelay). below o (get_or rest k d) ≡ true) one [] (above k d lt)
    (λ i e none. absurd (omega (arith, none))))

walks : (newest : Newest) (keys : Keys) (all before rest : List JudgedRelay) → all ≡ before ++ rest → AreKeysOf keys before
    → All (AllBelow before) rest → RelaysAscend rest
    → entries_from newest keys rest ≡ map (entry_of_judged newest) (filter (has_entry all) rest)
walks newest keys all before [] is are across pairs = refl
walks newest keys all before (one ∷ rest) is are across pairs =
    let p = has_entry all in
    let below_it = All-head (AllBelow before) one rest across in
    let above = AllPairs-head (λ (a b : JudgedRelay). below a b ≡ true) one rest pairs in
    let its = is_listed keys one.ruled.ruling (signer_of one.descriptor.identity_ed25519) in
    let listed : its ≡ p one =
    listed_is keys before rest one are below_it above ∙ ap (λ (l : List JudgedRelay). has_entry l one) (sym is) in
    let next = walks newest (keys_with keys one) all (before ++ one ∷ []) rest
    (is ∙ sym (append_assoc before (one ∷ []) rest)) (keys_more keys before one are)
    (across_more before one rest (All-tail (AllBelow before) one rest across) above)
    (AllPairs-tail (λ (a b : JudgedRelay). below a b ≡ true) one rest pairs) in
    ap (λ (l : List EntryFacts). (if its then entry_of_judged newest one ∷ [] else []) ++ l) next
    ∙ if_listed newest p one rest its (sym listed)

-- the entries of relays that ascend
pub listed_in_turn : (newest : Newest) (relays : List JudgedRelay) → RelaysAscend relays
    → entries_from newest set.empty relays ≡ made_entries newest relays
listed_in_turn newest relays pairs =
    walks newest set.empty relays [] relays refl no_keys (λ k d lt i e none. absurd (omega (arith, none))) pairs
