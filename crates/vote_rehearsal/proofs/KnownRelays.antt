-- The identities of the relays that are known.
use Rattle.std.proofs.Common.{◌≡◌, ℕ, ◌+◌, Bool, true, false, List, [], ◌∷◌, ◌++◌, refl, sym, ap, ap₂, ◌∙◌, arith}
use Rattle.std.proofs.lemmas.{Bool.{true≢false, false_from_ne_true}, Cmp.nat_list_cmp_total, List.append-nil}
use Rattle.std.proofs.lemmas.List.{Folds.list_any-append, FromFn.filter_of_map_range_with_len_more}
use Rattle.std.{proofs.lemmas.List.{FromFn.map-range_with_len_more, Sums.fold_push}, specs.Prelude.{not, ◌&&◌, ◌||◌}}
use Rattle.std.specs.{Prelude.{cond, if◌then◌else◌}, List.list_any, Cmp.Lexicographic.{slice_cmp, texts_ties}}
use Rattle.std.specs.{Cmp.Lexicographic.bytes_decides, Ordering.{eq_by_cmp, nat_cmp}, Str.bytes_eq}
use Rattle.std.specs.FinSet as set
use Rattle.vote_rehearsal.specs.Relays.{by_identity, is_repeated, listed_relays, relay_of, relays_below, with_relay}
use Rattle.vote_rehearsal.specs.{Private.{Known, is_new}, declared.relay.Relay.Relay}

-- whether a relay has this RSA identity
abbrev has_identity : List ℕ → Relay → Bool
has_identity key relay = bytes_eq relay.identity.0 key

-- whether it has this Ed25519 identity key
abbrev has_key : List ℕ → Relay → Bool
has_key key relay = bytes_eq relay.ed key

-- these are the RSA identities of relays
abbrev pub AreIdentitiesOf : Known → List Relay → Type 0
AreIdentitiesOf known relays = (key : List ℕ) → set.contains known key ≡ list_any (has_identity key) relays

-- these are their Ed25519 identity keys
abbrev pub AreKeysOf : Known → List Relay → Type 0
AreKeysOf known relays = (key : List ℕ) → set.contains known key ≡ list_any (has_key key) relays

pub no_identities : AreIdentitiesOf set.empty []
no_identities key = set.contains-empty (slice_cmp nat_cmp) key

pub no_keys : AreKeysOf set.empty []
no_keys key = set.contains-empty (slice_cmp nat_cmp) key

or_false : (b : Bool) → (b || false) ≡ b
or_false true = refl
or_false false = refl

or_swap : (a b : Bool) → (a || b) ≡ (b || a)
or_swap true true = refl
or_swap true false = refl
or_swap false true = refl
or_swap false false = refl

-- one more at the end
any_more : (p : Relay → Bool) (before : List Relay) (one : Relay)
    → list_any p (before ++ one ∷ []) ≡ (list_any p before || p one)
any_more p before one =
    list_any-append p before (one ∷ []) ∙ ap (λ (b : Bool). list_any p before || b) (or_false (p one))

-- a key is another exactly as the other is it
same_back : (a b : List ℕ) → eq_by_cmp (slice_cmp nat_cmp) a b ≡ bytes_eq b a
same_back a b = sym (texts_ties a b) ∙ by (bytes_eq a b) refl
  where
    by : (t : Bool) → bytes_eq a b ≡ t → bytes_eq a b ≡ bytes_eq b a
    by true is = is ∙ sym ((bytes_decides b a).1 (sym ((bytes_decides a b).0 is)))
    by false is =
        is ∙ sym (false_from_ne_true (bytes_eq b a) (λ back.
        true≢false (sym ((bytes_decides a b).1 (sym ((bytes_decides b a).0 back))) ∙ is)))

-- known keys with that of one more
more : (p : List ℕ → Relay → Bool) (known : Known) (before : List Relay) (one : Relay) (its : List ℕ)
    → ((key : List ℕ) → p key one ≡ bytes_eq its key)
    → ((key : List ℕ) → set.contains known key ≡ list_any (p key) before) → (key : List ℕ)
    → set.contains (set.insert known its) key ≡ list_any (p key) (before ++ one ∷ [])
more p known before one its is are key =
    set.contains-insert nat_list_cmp_total known its key
    ∙ ap₂ (λ (a b : Bool). a || b) (same_back key its ∙ sym (is key)) (are key)
    ∙ or_swap (p key one) (list_any (p key) before)
    ∙ sym (any_more (p key) before one)

-- the relays below the next number
below_more : (seed authorities number : ℕ)
    → relays_below seed authorities (number + 1)
    ≡ relays_below seed authorities number ++ relay_of seed authorities number ∷ []
below_more seed authorities number = map-range_with_len_more (relay_of seed authorities) 0 number number (omega arith)

pub more_identities : (seed authorities number : ℕ) (known new : Known)
    → new ≡ set.insert known (relay_of seed authorities number).identity.0
    → AreIdentitiesOf known (relays_below seed authorities number)
    → AreIdentitiesOf new (relays_below seed authorities (number + 1))
more_identities seed authorities number known new is are key =
    let one = relay_of seed authorities number in
    ap (λ (k : Known). set.contains k key) is
    ∙ more has_identity known (relays_below seed authorities number) one one.identity.0 (λ k. refl) are key
    ∙ ap (λ (l : List Relay). list_any (has_identity key) l) (sym (below_more seed authorities number))

pub more_keys : (seed authorities number : ℕ) (known new : Known)
    → new ≡ set.insert known (relay_of seed authorities number).ed
    → AreKeysOf known (relays_below seed authorities number)
    → AreKeysOf new (relays_below seed authorities (number + 1))
more_keys seed authorities number known new is are key =
    let one = relay_of seed authorities number in
    ap (λ (k : Known). set.contains k key) is
    ∙ more has_key known (relays_below seed authorities number) one one.ed (λ k. refl) are key
    ∙ ap (λ (l : List Relay). list_any (has_key key) l) (sym (below_more seed authorities number))

-- ---- which of them are new

or_both : (a b c d : Bool) → ((a || b) || (c || d)) ≡ ((a || c) || (b || d))
or_both true true c d = refl
or_both true false true d = refl
or_both true false false d = refl
or_both false true true d = refl
or_both false true false true = refl
or_both false true false false = refl
or_both false false true d = refl
or_both false false false d = refl

any_either : (p q : Relay → Bool) (xs : List Relay)
    → list_any (λ x. p x || q x) xs ≡ (list_any p xs || list_any q xs)
any_either p q [] = refl
any_either p q (x ∷ xs) =
    ap (λ (b : Bool). (p x || q x) || b) (any_either p q xs) ∙ or_both (p x) (q x) (list_any p xs) (list_any q xs)

not_either : (a b : Bool) → (not a && not b) ≡ not (a || b)
not_either true true = refl
not_either true false = refl
not_either false true = refl
not_either false false = refl

new_is : (seed authorities number : ℕ) (identities keys : Known)
    → AreIdentitiesOf identities (relays_below seed authorities number)
    → AreKeysOf keys (relays_below seed authorities number)
    → is_new identities keys (relay_of seed authorities number)
    ≡ not (is_repeated seed authorities (relay_of seed authorities number))
new_is seed authorities number identities keys ids ks =
    let one = relay_of seed authorities number in
    let before = relays_below seed authorities number in
    ap₂ (λ (a b : Bool). not a && not b) (ids one.identity.0) (ks one.ed)
    ∙ not_either (list_any (has_identity one.identity.0) before) (list_any (has_key one.ed) before)
    ∙ ap not (sym (any_either (has_identity one.identity.0) (has_key one.ed) before))

-- a relay that is put where it is listed
put : (p : Bool) (relays : List Relay) (one : Relay)
    → by_identity (relays ++ cond p (one ∷ []) [])
    ≡ (if p then with_relay (by_identity relays) one else by_identity relays)
put true relays one = fold_push with_relay [] relays one
put false relays one = ap by_identity (append-nil relays)

-- the listed relays with one more, if it is listed
pub more_listed : (seed authorities number : ℕ) (identities keys : Known) (new : Bool)
    (old now : List (List ℕ × Relay))
    → AreIdentitiesOf identities (relays_below seed authorities number)
    → AreKeysOf keys (relays_below seed authorities number)
    → new ≡ is_new identities keys (relay_of seed authorities number)
    → old ≡ by_identity (listed_relays seed authorities number)
    → now ≡ (if new then with_relay old (relay_of seed authorities number) else old)
    → now ≡ by_identity (listed_relays seed authorities (number + 1))
more_listed seed authorities number identities keys new old now ids ks is before after =
    let one = relay_of seed authorities number in
    let p = λ (relay : Relay). not (is_repeated seed authorities relay) in
    let same : new ≡ p one = is ∙ new_is seed authorities number identities keys ids ks in
    after
    ∙ ap₂ (λ (b : Bool) (l : List (List ℕ × Relay)). if b then with_relay l one else l) same before
    ∙ sym (put (p one) (listed_relays seed authorities number) one)
    ∙ ap by_identity
    (sym (filter_of_map_range_with_len_more p (relay_of seed authorities) 0 number number (omega arith)))
