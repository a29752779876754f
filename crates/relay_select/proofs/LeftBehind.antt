-- What is left of each vote, and what is left behind the identity that stands first.
use Rattle.std.proofs.Common.{◌≡◌, ℕ, ◌+◌, ◌<◌, ◌≤◌, Bool, true, false, ◌&&◌, ◌||◌, List, [], ◌∷◌, ◌++◌, map, refl, sym}
use Rattle.std.proofs.{Common.{ap, ◌∙◌, ⊎_elim}, lemmas.{Bool.false≢true, List.Folds.list_any-append}}
use Rattle.std.specs.{Prelude.{All, option_map}, Option.option_to_list, List.{flat_map, list_any}, Str.bytes_eq}
use Rattle.dir_values.specs.{declared.digest.Fingerprint.Fingerprint, FlagSets.{has_flag, as_set}}
use Rattle.dir_values.proofs.{Orders.{same_text, AllPairs-cons}, Flags.{Ascend-as_set, has_flag-as_set}}
use Rattle.vote_terms.specs.declared.entry.EntryFacts.{EntryFacts}
use Rattle.compute_terms.specs.{declared.belong.Belong.Belong, Listings.identities_of}
use Rattle.relay_select.specs.{Walks.{Group, place_from}, Cursors.{Cursor, past, is_next, next_in, next_from, left_of}}
use Rattle.relay_select.{specs.Cursors.{group_left, groups_left}, proofs.AscendingEntries.{Below, itself, apart}}
use Rattle.relay_select.proofs.AscendingEntries.{or_cases, all_from, same_set, Above, above_has, no_place}

-- ---- what is left of each vote

-- The next entry of a vote is of this identity, and the others come behind it; or all come behind it.
pub data At (rsa : Fingerprint) (c : Cursor) : Type 0 where
  taken : (entry : EntryFacts) (rest : List EntryFacts) → c.rest ≡ entry ∷ rest → bytes_eq entry.identity.0 rsa.0 ≡ true → Above rsa.0 rest → At rsa c
  waits : is_next c.rest rsa ≡ false → Above rsa.0 c.rest → At rsa c

abbrev pub AllAt : Fingerprint → List Cursor → Type 0
AllAt rsa [] = Unit {0}
AllAt rsa (c ∷ cs) = At rsa c × AllAt rsa cs

-- whether some next entry has this identity
abbrev pub some_next : Fingerprint → List Cursor → Bool
some_next rsa cs = list_any (λ (c : Cursor). is_next c.rest rsa) cs

abbrev pub bytes_left : List Cursor → List (List ℕ)
bytes_left cs = flat_map (λ (c : Cursor). identities_of c.rest) cs

either : (xs ys : List (List ℕ)) (t : List ℕ) → has_flag (xs ++ ys) t ≡ (has_flag xs t || has_flag ys t)
either xs ys t = list_any-append (λ other. bytes_eq other t) xs ys

swapped : (e a r m : Bool) → ((e || r) || ((a && e) || m)) ≡ (((true || a) && e) || (r || m))
swapped true a r m = refl
swapped false true true m = refl
swapped false true false m = refl
swapped false false true m = refl
swapped false false false m = refl

kept : (e a r m : Bool) → (r || ((a && e) || m)) ≡ (((false || a) && e) || (r || m))
kept true true true m = refl
kept true true false m = refl
kept true false r m = refl
kept false true true m = refl
kept false true false m = refl
kept false false r m = refl

has_left_by : (rsa : Fingerprint) (c : Cursor) (t : List ℕ) (a m : Bool) → At rsa c
    → (has_flag (identities_of c.rest) t || ((a && bytes_eq rsa.0 t) || m)) ≡ (((is_next c.rest rsa || a) && bytes_eq rsa.0 t) || (has_flag (identities_of (past rsa c).rest) t || m))
has_left_by rsa c t a m (taken entry rest splits is above) =
    let here : bytes_eq entry.identity.0 t ≡ bytes_eq rsa.0 t = ap (λ (s : List ℕ). bytes_eq s t) (same_text entry.identity.0 rsa.0 is) in
    rw (splits, is, here) (swapped (bytes_eq rsa.0 t) a (has_flag (identities_of rest) t) m)
has_left_by rsa c t a m (waits other above) = rw other (kept (bytes_eq rsa.0 t) a (has_flag (identities_of c.rest) t) m)

-- what is left has this identity, where it stands next, and what is left behind it
has_left : (rsa : Fingerprint) (cs : List Cursor) (t : List ℕ) → AllAt rsa cs
    → has_flag (bytes_left cs) t ≡ ((some_next rsa cs && bytes_eq rsa.0 t) || has_flag (bytes_left (map (past rsa) cs)) t)
has_left rsa [] t all = refl
has_left rsa (c ∷ cs) t all =
    either (identities_of c.rest) (bytes_left cs) t
    ∙ ap (λ (b : Bool). has_flag (identities_of c.rest) t || b) (has_left rsa cs t all.1)
    ∙ has_left_by rsa c t (some_next rsa cs) (has_flag (bytes_left (map (past rsa) cs)) t) all.0
    ∙ ap (λ (b : Bool). (some_next rsa (c ∷ cs) && bytes_eq rsa.0 t) || b) (sym (either (identities_of (past rsa c).rest) (bytes_left (map (past rsa) cs)) t))

left_above_by : (rsa : Fingerprint) (c : Cursor) (t : List ℕ) → At rsa c → has_flag (identities_of (past rsa c).rest) t ≡ true → Below rsa.0 t
left_above_by rsa c t (taken entry rest splits is above) h = above_has rsa.0 rest t above (rw (splits, is) at h)
left_above_by rsa c t (waits other above) h = above_has rsa.0 c.rest t above (rw other at h)

-- what is left behind it comes behind it
left_above : (rsa : Fingerprint) (cs : List Cursor) (t : List ℕ) → AllAt rsa cs → has_flag (bytes_left (map (past rsa) cs)) t ≡ true → Below rsa.0 t
left_above rsa [] t all h = absurd (false≢true h)
left_above rsa (c ∷ cs) t all h =
    ⊎_elim (λ (i : has_flag (identities_of (past rsa c).rest) t ≡ true). left_above_by rsa c t all.0 i) (λ i. left_above rsa cs t all.1 i)
    (or_cases (has_flag (identities_of (past rsa c).rest) t) (has_flag (bytes_left (map (past rsa) cs)) t) (sym (either (identities_of (past rsa c).rest) (bytes_left (map (past rsa) cs)) t) ∙ h))

member_by : (rsa : Fingerprint) (c : Cursor) (n : ℕ) → At rsa c → option_to_list (option_map (λ place. record { vote = n; entry = place }) (place_from c.place c.rest rsa)) ≡ next_in n c rsa
member_by rsa c n (taken entry rest splits is above) = rw (splits, is) refl
member_by rsa c n (waits other above) = rw (other, no_place rsa c.rest c.place above) refl

-- the members of the group are the entries that stand next
members_are : (rsa : Fingerprint) (cs : List Cursor) (n : ℕ) → AllAt rsa cs → left_of n cs rsa ≡ next_from n cs rsa
members_are rsa [] n all = refl
members_are rsa (c ∷ cs) n all = rw (members_are rsa cs (n + 1) all.1, member_by rsa c n all.0) refl

other_by : (rsa other : Fingerprint) (c : Cursor) (n : ℕ) → Below rsa.0 other.0 → At rsa c → place_from c.place c.rest other ≡ place_from (past rsa c).place (past rsa c).rest other
other_by rsa other c n behind (taken entry rest splits is above) =
    let apart_is : bytes_eq entry.identity.0 other.0 ≡ false = rw (same_text entry.identity.0 rsa.0 is) (apart rsa.0 other.0 behind) in
    rw (splits, is, apart_is) refl
other_by rsa other c n behind (waits stays above) = rw stays refl

-- those of the other groups are those that are left behind them
others_are : (rsa other : Fingerprint) (cs : List Cursor) (n : ℕ) → Below rsa.0 other.0 → AllAt rsa cs → left_of n cs other ≡ left_of n (map (past rsa) cs) other
others_are rsa other [] n behind all = refl
others_are rsa other (c ∷ cs) n behind all = rw (others_are rsa other cs (n + 1) behind all.1, other_by rsa other c n behind all.0) refl

map_same : (f g : List ℕ → Group) (xs : List (List ℕ)) → ((t : List ℕ) → has_flag xs t ≡ true → f t ≡ g t) → map f xs ≡ map g xs
map_same f g [] same = refl
map_same f g (x ∷ xs) same =
    rw (same x (rw (itself x) refl), map_same f g xs (λ t h. same t (later (bytes_eq x t) (has_flag xs t) h))) refl
  where
    later : (a b : Bool) → b ≡ true → (a || b) ≡ true
    later true b h = refl
    later false b h = h

-- the set of what is left is this identity, and the set of what is left behind it
set_left : (rsa : Fingerprint) (cs : List Cursor) → AllAt rsa cs → some_next rsa cs ≡ true → as_set (bytes_left cs) ≡ rsa.0 ∷ as_set (bytes_left (map (past rsa) cs))
set_left rsa cs all next =
    let rest = bytes_left (map (past rsa) cs) in
    let behind : All (Below rsa.0) (as_set rest) = all_from (Below rsa.0) (as_set rest) (λ t h. left_above rsa cs t all (sym (has_flag-as_set rest t) ∙ h)) in
    same_set (as_set (bytes_left cs)) (rsa.0 ∷ as_set rest) (Ascend-as_set (bytes_left cs)) (AllPairs-cons Below rsa.0 (as_set rest) behind (Ascend-as_set rest))
    (λ t.
    has_flag-as_set (bytes_left cs) t ∙ has_left rsa cs t all ∙ ap (λ (b : Bool). (b && bytes_eq rsa.0 t) || has_flag rest t) next
    ∙ ap (λ (b : Bool). bytes_eq rsa.0 t || b) (sym (has_flag-as_set rest t)))

-- the groups that are left are this identity's, and those that are left behind it
pub groups_step : (rsa : Fingerprint) (cs : List Cursor) → AllAt rsa cs → some_next rsa cs ≡ true
    → groups_left cs ≡ record { identity = rsa; members = next_from 0 cs rsa } ∷ groups_left (map (past rsa) cs)
groups_step rsa cs all next =
    let rest = as_set (bytes_left (map (past rsa) cs)) in
    ap (map (group_left cs)) (set_left rsa cs all next)
    ∙ ap (λ (members : List Belong). record { identity = rsa; members = members } ∷ map (group_left cs) rest) (members_are rsa cs 0 all)
    ∙ ap (λ (gs : List Group). record { identity = rsa; members = next_from 0 cs rsa } ∷ gs)
    (map_same (group_left cs) (group_left (map (past rsa) cs)) rest
    (λ t h. ap (λ (members : List Belong). record { identity = record { 0 = t }; members = members })
    (others_are rsa (record { 0 = t }) cs 0 (left_above rsa cs t all (sym (has_flag-as_set (bytes_left (map (past rsa) cs)) t) ∙ h)) all)))
