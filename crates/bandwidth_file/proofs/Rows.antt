-- What one row more changes, and what a tree of identities holds.
use Rattle.std.proofs.Common.{◌≡◌, ℕ, ◌+◌, ◌==◌, ◌&&◌, Bool, true, false, cond, List, [], ◌∷◌, ◌++◌, length, reverse}
use Rattle.std.proofs.Common.{Option, Some, None, option_to_list, is_none, is_some, refl, sym, ap, ap₂, ◌∙◌}
use Rattle.std.{proofs.{Common.if◌then◌else◌, lemmas.List.{reverse-append, length-append}}, specs.List.find}
use Rattle.std.specs.{Map.lookup, Option.option_map, Ordering.{nat_cmp, is_eq}, Cmp.Lexicographic.slice_cmp}
use Rattle.std.specs.Cmp.Lexicographic.{texts_ties}
use Rattle.dir_values.{proofs.WordSets.ties_as_one, specs.Digests.same_identity}
use Rattle.dir_values.specs.declared.digest.Fingerprint.{Fingerprint}
use Rattle.bandwidth_file.specs.{declared.said.Row.Row, Files.{max_relays, many_fault}, Lines.at}
use Rattle.bandwidth_file.specs.{Gathered.gathered_values, Relays.{last_bandwidth, new_row, number_of_identities}}
use Rattle.bandwidth_file.specs.{Relays.bandwidth_in, Lending.{one_if_new, is_over, HasRow, HasRows}}
use Rattle.bandwidth_file.proofs.Gathering.{gathered_one}
use Rattle.bandwidth_file.specs.declared.refusal.BandReason.TheVariants as reason

abbrev Found : Bool → Row → Option Row → Option ℕ
Found same row other = option_map (λ (r : Row). r.bandwidth) (cond same (Some row) other)

choose : (same : Bool) (row : Row) (other : Option Row)
    → Found same row other ≡ (if same then Some row.bandwidth else option_map (λ (r : Row). r.bandwidth) other)
choose true row other = refl
choose false row other = refl

-- the last bandwidths with one row more
pub last_with_row : (rows : List Row) (row : Row) (identity : Fingerprint)
    → last_bandwidth (rows ++ row ∷ []) identity ≡ (if same_identity row.identity identity then Some row.bandwidth else last_bandwidth rows identity)
last_with_row rows row identity =
    ap (λ (l : List Row). option_map (λ (r : Row). r.bandwidth) (find (λ (r : Row). same_identity r.identity identity) l)) (reverse-append rows (row ∷ []))
    ∙ choose (same_identity row.identity identity) row (find (λ (r : Row). same_identity r.identity identity) (reverse rows))

counted : (there : Bool) (row : Row) → length (option_to_list (if there then None else Some row)) ≡ (if there then 0 else 1)
counted true row = refl
counted false row = refl

-- the number of identities with one row more
pub number_with_row : (rows : List Row) (row : Row)
    → number_of_identities (rows ++ row ∷ []) ≡ number_of_identities rows + (if is_some (last_bandwidth rows row.identity) then 0 else 1)
number_with_row rows row =
    ap (λ (l : List Row). length l) (gathered_one new_row rows row)
    ∙ length-append (gathered_values new_row rows) (option_to_list (new_row rows row))
    ∙ ap (λ (n : ℕ). number_of_identities rows + n) (counted (is_some (last_bandwidth rows row.identity)) row)

-- what a tree finds of an identity
pub found_is : (relays : List (Fingerprint × ℕ)) (identity : Fingerprint)
    → lookup (λ (other : Fingerprint). is_eq (slice_cmp nat_cmp identity.0 other.0)) relays ≡ bandwidth_in relays identity
found_is [] identity = refl
found_is (first ∷ rest) identity =
    ap₂ (λ (b : Bool) (l : Option ℕ). cond b (Some first.1) l) (ties_as_one first.0.0 identity.0) (found_is rest identity)

-- what a tree finds once a row was put in
pub put_is : (old new : List (Fingerprint × ℕ)) (row : Row)
    → ((identity : Fingerprint) → lookup (λ (other : Fingerprint). is_eq (slice_cmp nat_cmp identity.0 other.0)) new
    ≡ cond (is_eq (slice_cmp nat_cmp row.identity.0 identity.0)) (Some row.bandwidth) (lookup (λ (other : Fingerprint). is_eq (slice_cmp nat_cmp identity.0 other.0)) old))
    → HasRow old row new
put_is old new row puts identity =
    sym (found_is new identity) ∙ puts identity
    ∙ ap₂ (λ (b : Bool) (l : Option ℕ). cond b (Some row.bandwidth) l) (sym (texts_ties row.identity.0 identity.0)) (found_is old identity)

-- how long it is, once a row was put in
pub put_len : (old new : List (Fingerprint × ℕ)) (row : Row) (was : Option ℕ)
    → was ≡ lookup (λ (other : Fingerprint). is_eq (slice_cmp nat_cmp row.identity.0 other.0)) old
    → length new ≡ length old + (if is_some was then 0 else 1) → length new ≡ length old + one_if_new old row.identity
put_len old new row was was_is longer =
    longer ∙ ap (λ (o : Option ℕ). length old + (if is_some o then 0 else 1)) (was_is ∙ found_is old row.identity)

-- two tests in either order
either_order : (a b : Bool) → (a && b) ≡ (b && a)
either_order true true = refl
either_order true false = refl
either_order false true = refl
either_order false false = refl

-- whether a row is one too many
pub many_is : (rows : List Row) (place : ℕ) (row : Row) (relays : List (Fingerprint × ℕ)) (over : Bool) → HasRows rows relays → over ≡ is_over relays row.identity
    → many_fault rows place row ≡ (if over then Some (at place reason.TooMany) else None)
many_is rows place row relays over has is =
    ap₂ (λ (o : Option ℕ) (n : ℕ). if is_none o && (n == max_relays) then Some (at place reason.TooMany) else None)
    (sym (has.bandwidths row.identity)) (sym has.count)
    ∙ ap (λ (b : Bool). if b then Some (at place reason.TooMany) else None)
    (either_order (is_none (bandwidth_in relays row.identity)) (length relays == max_relays) ∙ sym is)

-- what is known of rows and their identities, once one more row was put in
pub has_one_more : (rows : List Row) (row : Row) (old new : List (Fingerprint × ℕ)) → HasRows rows old → HasRow old row new
    → length new ≡ length old + one_if_new old row.identity → HasRows (rows ++ row ∷ []) new
has_one_more rows row old new has puts longer = record {
  bandwidths = λ identity. puts identity
      ∙ ap (λ (o : Option ℕ). if same_identity row.identity identity then Some row.bandwidth else o) (has.bandwidths identity)
      ∙ sym (last_with_row rows row identity);
  count = longer ∙ ap₂ (λ (n : ℕ) (o : Option ℕ). n + (if is_some o then 0 else 1)) has.count (has.bandwidths row.identity)
      ∙ sym (number_with_row rows row);
}
