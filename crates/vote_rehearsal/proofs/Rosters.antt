-- The fingerprints of the authorities that vote are a roster.
use Rattle.std.proofs.Common.{◌≡◌, ℕ, zero, suc, ◌+◌, ◌≤◌, Bool, true, false, List, [], ◌∷◌, ◌++◌, length, map, refl}
use Rattle.std.proofs.{Common.{sym, ap, ◌∙◌, Option, None, Ok, arith, append_assoc, length-append}, lemmas.Bool.le-ltb}
use Rattle.std.proofs.lemmas.{Bool.ne_eqb, List.{append-nil, map-append, length-map, FromFn.length-map-range_with_len}}
use Rattle.std.proofs.lemmas.{List.{FromFn.map-range_with_len_more, Sums.fold_push}, Option.none-some}
use Rattle.std.specs.{Prelude.{◌==◌, ◌||◌, nat_lt, if◌then◌else◌}, List.{fold, range_with_len}}
use Rattle.dir_values.specs.{Digests.same_identity, Rosters.{first_repeat, has_member, repeat_after, roster_of}}
use Rattle.dir_values.specs.{Rosters.unless_twice, declared.digest.Fingerprint.Fingerprint}
use Rattle.vote_rehearsal.specs.Authorities.{authority_of, has_identity, members_of, voters, with_voter}
use Rattle.vote_rehearsal.specs.{Private.MakeRoster, declared.authority.Authority.Authority}

-- a member that is not among others repeats none of them
one_more_member_repeats_none : (before members : List Fingerprint) (one : Fingerprint) → repeat_after before members ≡ None
    → has_member (before ++ members) one ≡ false → repeat_after before (members ++ one ∷ []) ≡ None
one_more_member_repeats_none before [] one none new =
    let fresh : has_member before one ≡ false =
    ap (λ (l : List Fingerprint). has_member l one) (sym (append-nil before)) ∙ new in
    rw fresh refl
one_more_member_repeats_none before (first ∷ members) one none new =
    by (has_member before first) refl
    (λ rest. one_more_member_repeats_none (before ++ first ∷ []) members one rest
    (ap (λ (l : List Fingerprint). has_member l one) (append_assoc before (first ∷ []) members) ∙ new))
  where
    by : (b : Bool) → has_member before first ≡ b
        → (repeat_after (before ++ first ∷ []) members ≡ None
        → repeat_after (before ++ first ∷ []) (members ++ one ∷ []) ≡ None)
        → repeat_after before (first ∷ (members ++ one ∷ [])) ≡ None
    by true is more = absurd (none-some first (sym (rw is at none)))
    by false is more = rw is (more (rw is at none))

-- the fingerprint of an authority is among those of others exactly where one of them has it
among : (authorities : List Authority) (identity : Fingerprint)
    → has_member (members_of authorities) identity ≡ has_identity authorities identity
among [] identity = refl
among (one ∷ authorities) identity =
    ap (λ (b : Bool). same_identity one.identity identity || b) (among authorities identity)

-- none of those that vote has the fingerprint of one before
next_apart : (authorities : List Authority) (one : Authority) → first_repeat (members_of authorities) ≡ None
    → first_repeat (members_of (with_voter authorities one)) ≡ None
next_apart authorities one none = by (has_identity authorities one.identity) refl
  where
    by : (b : Bool) → has_identity authorities one.identity ≡ b
        → first_repeat (members_of (if b then authorities else authorities ++ one ∷ [])) ≡ None
    by true is = none
    by false is =
        ap (λ (l : List Fingerprint). first_repeat l) (map-append (λ (a : Authority). a.identity) authorities (one ∷ []))
        ∙ one_more_member_repeats_none [] (members_of authorities) one.identity none (among authorities one.identity ∙ is)

apart : (before xs : List Authority) → first_repeat (members_of before) ≡ None
    → first_repeat (members_of (fold with_voter before xs)) ≡ None
apart before [] none = none
apart before (one ∷ xs) none = apart (with_voter before one) xs (next_apart before one none)

-- ---- how many there are

next_length : (authorities : List Authority) (one : Authority)
    → (length authorities ≤ length (with_voter authorities one)) × (length (with_voter authorities one) ≤ length authorities + 1)
next_length authorities one = by (has_identity authorities one.identity)
  where
    by : (b : Bool)
        → (length authorities ≤ length (if b then authorities else authorities ++ one ∷ []))
        × (length (if b then authorities else authorities ++ one ∷ []) ≤ length authorities + 1)
    by true = (omega arith, omega arith)
    by false = let e = length-append authorities (one ∷ []) in (omega (arith, e), omega (arith, e))

fold_length : (before xs : List Authority)
    → (length before ≤ length (fold with_voter before xs)) × (length (fold with_voter before xs) ≤ length before + length xs)
fold_length before [] = (omega arith, omega arith)
fold_length before (one ∷ xs) =
    let next = next_length before one in
    let rest = fold_length (with_voter before one) xs in
    (omega (arith, next.0, next.1, rest.0, rest.1), omega (arith, next.0, next.1, rest.0, rest.1))

-- the authorities that vote
pub voters_length : (seed count : ℕ) → 1 ≤ count → (1 ≤ length (voters seed count)) × (length (voters seed count) ≤ count)
unfolding voters
voters_length seed zero some = absurd (omega (arith, some))
voters_length seed (suc count) some =
    let rest = fold_length (authority_of seed 1 ∷ []) (map (authority_of seed) (range_with_len 2 count)) in
    let e = length-map-range_with_len (authority_of seed) 2 count in
    let low : 1 ≤ length (voters seed (suc count)) = rest.0 in
    let high : length (voters seed (suc count)) ≤ 1 + length (map (authority_of seed) (range_with_len 2 count)) = rest.1 in
    (low, omega (arith, high, e))

ok_if : (members : List Fingerprint) → 1 ≤ length members → length members ≤ 32 → first_repeat members ≡ None
    → roster_of members ≡ Ok members
ok_if members some few none =
    let a : (length members == 0) ≡ false = ne_eqb (length members) 0 (λ e. omega (arith, e, some)) in
    let b : nat_lt 32 (length members) ≡ false = le-ltb 32 (length members) few in
    rw (a, b) (ap (λ (twice : Option Fingerprint). unless_twice members twice) none)

pub make_roster : (seed count : ℕ) → 1 ≤ count → count ≤ 32 → MakeRoster (voters seed count)
unfolding voters
make_roster seed count some few =
    let all = voters_length seed count some in
    let same = length-map (voters seed count) (λ (a : Authority). a.identity) in
    ok_if (members_of (voters seed count)) (omega (arith, all.0, same)) (omega (arith, all.1, same, few))
    (apart [] (map (authority_of seed) (range_with_len 1 count)) refl)

-- those that vote with one more
pub more_voters : (seed count : ℕ)
    → voters seed (count + 1) ≡ with_voter (voters seed count) (authority_of seed (count + 1))
unfolding voters
more_voters seed count =
    ap (λ (l : List Authority). fold with_voter [] l)
    (map-range_with_len_more (authority_of seed) 1 count (count + 1) (omega arith))
    ∙ fold_push with_voter [] (map (authority_of seed) (range_with_len 1 count)) (authority_of seed (count + 1))
