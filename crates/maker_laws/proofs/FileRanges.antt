-- Each bandwidth of a bandwidth file has 32 bits.
use Rattle.std.proofs.Common.{◌≡◌, ℕ, Bool, true, false, cond, List, [], ◌∷◌, reverse, Option, Some, refl, sym, ap}
use Rattle.std.proofs.{Common.subst, lemmas.List.{reverse-append, Elements.{All-append, All-cons, All-head, All-nil}}}
use Rattle.std.proofs.lemmas.{List.Elements.All-tail, Map.{Keys.sorted_tail, Views.All-after_first}}
use Rattle.std.{proofs.lemmas.Slice.Eq.bytes_eq-Decides, specs.{Prelude.{All, IfSome}, List.find, Map.keys_of}}
use Rattle.std.specs.Option.{option_map}
use Rattle.item_terms.specs.Lines.{lines}
use Rattle.dir_values.specs.{Digests.same_identity, declared.digest.Fingerprint.Fingerprint}
use Rattle.bandwidth_file.specs.{declared.{file.BandFile.BandFile, said.Row.Row}, Files.{IsBandFile, rows_of}}
use Rattle.bandwidth_file.specs.Relays.{Ascend, bandwidth_in, identity_order, last_bandwidth}
use Rattle.bandwidth_laws.proofs.LastRows.{none_later}
use Rattle.maker_laws.proofs.RowRanges.{IsKb, IsRow, rows_are}

reversed : (rows : List Row) → All IsRow rows → All IsRow (reverse rows)
reversed [] all = all
reversed (row ∷ rows) all =
    subst (λ (l : List Row). All IsRow l) (sym (reverse-append (row ∷ []) rows))
    (All-append IsRow (reverse rows) (row ∷ []) (reversed rows (All-tail IsRow row rows all))
    (All-cons IsRow row [] (All-head IsRow row rows all) (All-nil IsRow)))

-- the bandwidth of a row, if there is one
abbrev band : Option Row → Option ℕ
band found = option_map (λ (row : Row). row.bandwidth) found

first_found : (passes : Bool) (row : Row) (found : Option Row) → IsRow row → IfSome (band found) IsKb
    → IfSome (band (cond passes (Some row) found)) IsKb
first_found true row found here later = here
first_found false row found here later = later

is_found : (test : Row → Bool) (rows : List Row) → All IsRow rows → IfSome (band (find test rows)) IsKb
is_found test [] all = tt
is_found test (row ∷ rows) all =
    first_found (test row) row (find test rows) (All-head IsRow row rows all)
    (is_found test rows (All-tail IsRow row rows all))

-- the bandwidth that the last row of an identity gives it
last_is : (rows : List Row) (identity : Fingerprint) → All IsRow rows → IfSome (last_bandwidth rows identity) IsKb
last_is rows identity all =
    is_found (λ (row : Row). same_identity row.identity identity) (reverse rows) (reversed rows all)

-- the bandwidth that a file gives a relay
pub given_is : (content : List ℕ) (file : BandFile) → IsBandFile content file → (identity : Fingerprint)
    → IfSome (bandwidth_in file.relays identity) IsKb
given_is content file is identity =
    subst (λ (kb : Option ℕ). IfSome kb IsKb) (sym (is.relays identity))
    (last_is (rows_of (lines content)) identity (rows_are (lines content)))

-- ---- the relays of a file

-- identities with bandwidths
abbrev Relays : Type 0
Relays = List (Fingerprint × ℕ)

-- a relay with such a bandwidth
abbrev pub IsRelay : Fingerprint × ℕ → Type 0
IsRelay relay = IsKb relay.1

first_has : (relay : Fingerprint × ℕ) (relays : Relays) → bandwidth_in (relay ∷ relays) relay.0 ≡ Some relay.1
first_has relay relays =
    ap (λ (b : Bool). cond b (Some relay.1) (bandwidth_in relays relay.0))
    ((bytes_eq-Decides relay.0.0 relay.0.0).1 refl)

-- behind the first one too each identity has such a bandwidth, or none
later : (relay : Fingerprint × ℕ) (relays : Relays) → Ascend (relay ∷ relays) → (identity : Fingerprint)
    → IfSome (bandwidth_in (relay ∷ relays) identity) IsKb → IfSome (bandwidth_in relays identity) IsKb
later relay relays ascend identity = by (same_identity relay.0 identity) refl
  where
    by : (same : Bool) → same_identity relay.0 identity ≡ same
        → IfSome (cond same (Some relay.1) (bandwidth_in relays identity)) IsKb
        → IfSome (bandwidth_in relays identity) IsKb
    by true e is =
        subst (λ (kb : Option ℕ). IfSome kb IsKb)
        (sym (none_later relay.0 identity relays (All-after_first identity_order relay.0 (keys_of relays) ascend)
        ((bytes_eq-Decides relay.0.0 identity.0).0 e))) tt
    by false e is = is

each_is : (relays : Relays) → Ascend relays → ((identity : Fingerprint) → IfSome (bandwidth_in relays identity) IsKb)
    → All IsRelay relays
each_is [] ascend is = All-nil IsRelay
each_is (relay ∷ relays) ascend is =
    All-cons IsRelay relay relays
    (subst (λ (kb : Option ℕ). IfSome kb IsKb) (first_has relay relays) (is relay.0))
    (each_is relays (sorted_tail identity_order relay.0 (keys_of relays) ascend)
    (λ identity. later relay relays ascend identity (is identity)))

pub relays_are : (content : List ℕ) (file : BandFile) → IsBandFile content file → All IsRelay file.relays
relays_are content file is = each_is file.relays is.ascending (given_is content file is)
