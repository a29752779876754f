-- Of identities that ascend each has one row.
use Rattle.std.proofs.Common.{◌≡◌, ℕ, Bool, true, false, cond, List, [], ◌∷◌, Option, Some, None, refl, sym, ap, ◌∙◌}
use Rattle.std.proofs.{Common.{reverse, subst, if◌then◌else◌}, lemmas.List.{reverse-append, Elements.All-head}}
use Rattle.std.proofs.lemmas.{List.{Elements.All-tail, Folds.find-append}, Map.Keys.sorted_tail}
use Rattle.std.{proofs.lemmas.{Map.Views.All-after_first, Slice.Eq.bytes_eq-Decides}, specs.Prelude.{map, All}}
use Rattle.std.specs.{List.find, Map.keys_of, Option.{option_map, option_or}, Ordering.is_eq}
use Rattle.std.specs.{declared.cmp.Ordering.TheVariants.Less, Str.bytes_eq}
use Rattle.dir_values.{proofs.WordSets.ties_as_one, specs.Digests.same_identity}
use Rattle.dir_values.specs.declared.digest.Fingerprint.{Fingerprint}
use Rattle.bandwidth_file.specs.{declared.said.Row.Row, Relays.{Ascend, bandwidth_in, identity_order, last_bandwidth}}
use Rattle.bandwidth_laws.proofs.RelayLines.{row_of}

-- the bandwidth of a row, if there is one
abbrev band : Option Row → Option ℕ
band found = option_map (λ (row : Row). row.bandwidth) found

either : (found : Option Row) (same : Bool) (row : Row)
    → band (option_or found (cond same (Some row) None))
    ≡ option_or (band found) (if same then Some row.bandwidth else None)
either (Some other) same row = refl
either None true row = refl
either None false row = refl

-- the last bandwidth, with one row more in front
last_with_first : (row : Row) (rows : List Row) (identity : Fingerprint) → last_bandwidth (row ∷ rows) identity
    ≡ option_or (last_bandwidth rows identity)
    (if same_identity row.identity identity then Some row.bandwidth else None)
last_with_first row rows identity =
    let test = λ (other : Row). same_identity other.identity identity in
    ap (λ (l : List Row). band (find test l)) (reverse-append (row ∷ []) rows)
    ∙ ap band (find-append test (reverse rows) (row ∷ []))
    ∙ either (find test (reverse rows)) (same_identity row.identity identity) row

-- an identity above another is not that one
other_one : (key other identity : Fingerprint) → identity_order key other ≡ Less → key.0 ≡ identity.0
    → same_identity other identity ≡ false
other_one key other identity less same =
    subst (λ (bytes : List ℕ). bytes_eq other.0 bytes ≡ false) same
    (sym (ties_as_one other.0 key.0) ∙ ap is_eq less)

pub none_later : (key identity : Fingerprint) (relays : List (Fingerprint × ℕ))
    → All (λ other. identity_order key other ≡ Less) (keys_of relays) → key.0 ≡ identity.0
    → bandwidth_in relays identity ≡ None
none_later key identity [] later same = refl
none_later key identity (relay ∷ relays) later same =
    let Above = λ (other : Fingerprint). identity_order key other ≡ Less in
    ap (λ (b : Bool). cond b (Some relay.1) (bandwidth_in relays identity))
    (other_one key relay.0 identity (All-head Above relay.0 (keys_of relays) later) same)
    ∙ none_later key identity relays (All-tail Above relay.0 (keys_of relays) later) same

by_same : (same : Bool) (bandwidth : ℕ) (rest : Option ℕ) → (same ≡ true → rest ≡ None)
    → cond same (Some bandwidth) rest ≡ option_or rest (if same then Some bandwidth else None)
by_same true bandwidth rest none = sym (ap (λ (o : Option ℕ). option_or o (Some bandwidth)) (none refl))
by_same false bandwidth None none = refl
by_same false bandwidth (Some other) none = refl

-- the last row of each is its only one
pub last_is : (relays : List (Fingerprint × ℕ)) (identity : Fingerprint) → Ascend relays
    → bandwidth_in relays identity ≡ last_bandwidth (map row_of relays) identity
last_is [] identity ascend = refl
last_is (relay ∷ relays) identity ascend =
    let same = same_identity relay.0 identity in
    let none : same ≡ true → bandwidth_in relays identity ≡ None =
    λ e. none_later relay.0 identity relays (All-after_first identity_order relay.0 (keys_of relays) ascend)
    ((bytes_eq-Decides relay.0.0 identity.0).0 e) in
    by_same same relay.1 (bandwidth_in relays identity) none
    ∙ ap (λ (o : Option ℕ). option_or o (if same then Some relay.1 else None))
    (last_is relays identity (sorted_tail identity_order relay.0 (keys_of relays) ascend))
    ∙ sym (last_with_first (row_of relay) (map row_of relays) identity)
