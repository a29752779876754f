-- Bytes are one bandwidth file at most.
use Rattle.std.proofs.Common.{◌≡◌, ◌∙◌, ℕ, Bool, true, false, cond, List, [], ◌∷◌, Some, None, refl, sym, ap, subst}
use Rattle.std.proofs.lemmas.{Cmp.nat_list_cmp_total, List.Elements.{All-cons, All-weaker}, Map.Keys.sorted_tail}
use Rattle.std.{proofs.lemmas.{Map.Views.All-after_first, Slice.Eq.bytes_eq-Decides}, specs.{Prelude.All, Map.keys_of}}
use Rattle.std.specs.{Ordering.{is_eq, ordering_reverse}, declared.cmp.Ordering.{Ordering, TheVariants.{Less, Equal}}}
use Rattle.std.specs.declared.cmp.Ordering.TheVariants.{Greater}
use Rattle.dir_values.{proofs.WordSets.ties_as_one, specs.Digests.same_identity}
use Rattle.dir_values.specs.declared.digest.Fingerprint.{Fingerprint}
use Rattle.bandwidth_file.specs.Relays.{Ascend, bandwidth_in, identity_order}
use Rattle.bandwidth_laws.{specs.Again.BytesAreOneFile, proofs.LastRows.none_later}

-- identities with bandwidths
abbrev Relays : Type 0
Relays = List (Fingerprint × ℕ)

-- two lists give each identity the same bandwidth
abbrev Agree : Relays → Relays → Type 0
Agree some others = (identity : Fingerprint) → bandwidth_in some identity ≡ bandwidth_in others identity

-- the identity of some bytes
abbrev identity_of : List ℕ → Fingerprint
identity_of bytes = record { 0 = bytes }

-- the first identity has its bandwidth
first_has : (relay : Fingerprint × ℕ) (relays : Relays) → bandwidth_in (relay ∷ relays) relay.0 ≡ Some relay.1
first_has relay relays =
    ap (λ (b : Bool). cond b (Some relay.1) (bandwidth_in relays relay.0))
    ((bytes_eq-Decides relay.0.0 relay.0.0).1 refl)

-- nothing is not something
not_there : {x : ℕ} {A : Type 0} → None ≡ Some x → A
not_there wrong = absurd cc

-- an identity below the first one of a list has none there
below_all : (identity first : Fingerprint) (bandwidth : ℕ) (relays : Relays) → Ascend ((first, bandwidth) ∷ relays)
    → identity_order identity first ≡ Less → bandwidth_in ((first, bandwidth) ∷ relays) identity ≡ None
below_all identity first bandwidth relays ascend less =
    let Above = λ (other : Fingerprint). identity_order identity other ≡ Less in
    none_later identity identity ((first, bandwidth) ∷ relays)
    (All-cons Above first (keys_of relays) less
    (All-weaker (λ other. identity_order first other ≡ Less) Above
    (λ other above. nat_list_cmp_total.trans identity.0 first.0 other.0 less above) (keys_of relays)
    (All-after_first identity_order first (keys_of relays) ascend)))
    refl

-- so the first of two lists that agree are of one identity
same_first : (one other : Fingerprint) (a b : ℕ) (some others : Relays) → Ascend ((one, a) ∷ some)
    → Ascend ((other, b) ∷ others) → Agree ((one, a) ∷ some) ((other, b) ∷ others) → one.0 ≡ other.0
same_first one other a b some others first second agree = by (identity_order one other) refl
  where
    by : (order : Ordering) → identity_order one other ≡ order → one.0 ≡ other.0
    by Less is =
        not_there (sym (below_all one other b others second is) ∙ sym (agree one) ∙ first_has (one, a) some)
    by Equal is =
        sym ((bytes_eq-Decides other.0 one.0).0 (sym (ties_as_one other.0 one.0) ∙ ap is_eq is))
    by Greater is =
        let less = nat_list_cmp_total.antisymm other.0 one.0 ∙ ap ordering_reverse is in
        not_there (sym (below_all other one a some first less) ∙ agree other ∙ first_has (other, b) others)

-- behind the first ones they agree too
rests_agree : (one : Fingerprint) (a : ℕ) (some others : Relays) → Ascend ((one, a) ∷ some)
    → Ascend ((one, a) ∷ others) → Agree ((one, a) ∷ some) ((one, a) ∷ others) → Agree some others
rests_agree one a some others first second agree identity = by (same_identity one identity) refl
  where
    by : (same : Bool) → same_identity one identity ≡ same → bandwidth_in some identity ≡ bandwidth_in others identity
    by true is =
        let equal = (bytes_eq-Decides one.0 identity.0).0 is in
        none_later one identity some (All-after_first identity_order one (keys_of some) first) equal
        ∙ sym (none_later one identity others (All-after_first identity_order one (keys_of others) second) equal)
    by false is =
        sym (ap (λ (b : Bool). cond b (Some a) (bandwidth_in some identity)) is) ∙ agree identity
        ∙ ap (λ (b : Bool). cond b (Some a) (bandwidth_in others identity)) is

-- lists that ascend and agree are one list
same_relays : (some others : Relays) → Ascend some → Ascend others → Agree some others → some ≡ others
same_relays [] [] first second agree = refl
same_relays [] (other ∷ others) first second agree = not_there (agree other.0 ∙ first_has other others)
same_relays (one ∷ some) [] first second agree = not_there (sym (agree one.0) ∙ first_has one some)
same_relays ((one, a) ∷ some) ((other, b) ∷ others) first second agree =
    let key : one ≡ other = ap identity_of (same_first one other a b some others first second agree) in
    let has : Some a ≡ Some b =
    sym (first_has (one, a) some) ∙ agree one
    ∙ ap (λ (k : Fingerprint). bandwidth_in ((other, b) ∷ others) k) key ∙ first_has (other, b) others in
    let value : a ≡ b = cc has in
    let same : (other, b) ≡ (one, a) = λ i. (sym key i, sym value i) in
    let second' = subst (λ (relay : Fingerprint × ℕ). Ascend (relay ∷ others)) same second in
    let agree' = subst (λ (relay : Fingerprint × ℕ). Agree ((one, a) ∷ some) (relay ∷ others)) same agree in
    let rest =
    same_relays some others (sorted_tail identity_order one (keys_of some) first)
    (sorted_tail identity_order one (keys_of others) second') (rests_agree one a some others first second' agree') in
    λ i. sym same i ∷ rest i

pub one_file : BytesAreOneFile
one_file bytes file other first second =
    let timestamp : file.timestamp ≡ other.timestamp = cc (first.timestamp, second.timestamp) in
    let headers : file.headers ≡ other.headers = first.headers ∙ sym second.headers in
    let relays : file.relays ≡ other.relays =
    same_relays file.relays other.relays first.ascending second.ascending
    (λ identity. first.relays identity ∙ sym (second.relays identity)) in
    λ i. record { timestamp = timestamp i; headers = headers i; relays = relays i }
