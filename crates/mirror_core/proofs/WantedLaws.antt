-- What is wanted.
use Rattle.std.proofs.Common.{◌≡◌, ℕ, ◌≤◌, Bool, true, false, List, [], ◌∷◌, ◌++◌, length, take, refl, sym, ap, subst}
use Rattle.std.proofs.{Common.{◌∙◌, arith}, lemmas.List.Elements.{All-nil, All-cons, All-head, All-tail, All-push}}
use Rattle.std.proofs.lemmas.{List.{Elements.All-take, Quantifiers.all_pairs_push}, Bool.false≢true, Grind.common_steps}
use Rattle.std.{proofs.lemmas.Slice.Eq.bytes_eq-Decides, specs.{Str.bytes_eq, Prelude.{All, AllPairs, ◌||◌, is_some}}}
use Rattle.std.specs.Prelude.{if◌then◌else◌}
use Rattle.mirror_core.specs.{Laws.{AreWanted, Differ, IsHeld, IsMissing}, Rows.{Rows, micro_of}, Wanting.is_among}
use Rattle.mirror_core.specs.Wanting.{is_passed, missing_digests, missing_after, most_wanted, first_missing}
use Rattle.mirror_core.proofs.Missing.{stands_first}

-- where all are held, none is added
all_passed : (rows : Rows) (before digests : List (List ℕ)) → All (IsHeld rows) digests
    → missing_after rows before digests ≡ before
all_passed rows before [] held = refl
all_passed rows before (digest ∷ digests) held =
    ap (λ (b : Bool). if b || is_among before digest then missing_after rows before digests else missing_after rows (before ++ digest ∷ []) digests)
    (All-head (IsHeld rows) digest digests held)
    ∙ all_passed rows before digests (All-tail (IsHeld rows) digest digests held)

-- where none is missing none is wanted
pub none_wanted : (rows : Rows) (digests : List (List ℕ)) → All (IsHeld rows) digests → first_missing rows digests ≡ []
none_wanted rows digests held = ap (λ (l : List (List ℕ)). take most_wanted l) (all_passed rows [] digests held)

some_first : (digest : List ℕ) (all rest : List (List ℕ)) → all ≡ (digest ∷ []) ++ rest → take most_wanted all ≡ [] → ⊥
some_first digest all rest is none =
    let first : take most_wanted (digest ∷ rest) ≡ [] = subst (λ (l : List (List ℕ)). take most_wanted l ≡ []) is none in
    cc first

-- and where none is wanted none is missing
pub all_held : (rows : Rows) (digests : List (List ℕ)) → first_missing rows digests ≡ [] → All (IsHeld rows) digests
all_held rows [] none = All-nil (IsHeld rows)
all_held rows (digest ∷ digests) none =
    by (λ later. all_held rows digests later) (is_some (micro_of rows digest)) refl none
  where
    by : (first_missing rows digests ≡ [] → All (IsHeld rows) digests) → (b : Bool) → is_some (micro_of rows digest) ≡ b
        → take most_wanted (if b || false then missing_after rows [] digests else missing_after rows (digest ∷ []) digests) ≡ []
        → All (IsHeld rows) (digest ∷ digests)
    by later true is none = All-cons (IsHeld rows) digest digests is (later none)
    by later false is none =
        let first = stands_first rows (digest ∷ []) digests in
        absurd (some_first digest (missing_after rows (digest ∷ []) digests) first.rest first.all_is none)

-- ---- what is wanted is missing, and once

no_passed : (a b : Bool) → (a || b) ≡ false → (a ≡ false) × (b ≡ false)
no_passed true b is = absurd (false≢true (sym is))
no_passed false b is = (refl, is)

first_named : (digest : List ℕ) (digests : List (List ℕ)) → is_among (digest ∷ digests) digest ≡ true
first_named digest digests = ap (λ (b : Bool). b || is_among digests digest) ((bytes_eq-Decides digest digest).1 refl)

later_named : (a b : Bool) → b ≡ true → (a || b) ≡ true
later_named true b is = refl
later_named false b is = is

one_missing : (rows : Rows) (digest : List ℕ) (digests : List (List ℕ)) (other : List ℕ) → IsMissing rows digests other
    → IsMissing rows (digest ∷ digests) other
one_missing rows digest digests other is =
    record { named = later_named (bytes_eq digest other) (is_among digests other) is.named; missing = is.missing }

-- what stood before is kept, and what is added is missing
pub each_missing : (rows : Rows) (P : List ℕ → Type 0) (before digests : List (List ℕ)) → All P before
    → ((digest : List ℕ) → IsMissing rows digests digest → P digest) → All P (missing_after rows before digests)
each_missing rows P before [] have so = have
each_missing rows P before (digest ∷ digests) have so =
    by (λ before have. each_missing rows P before digests have (λ other is. so other (one_missing rows digest digests other is)))
    (is_passed rows before digest) refl
  where
    by : ((before : List (List ℕ)) → All P before → All P (missing_after rows before digests)) → (b : Bool)
        → is_passed rows before digest ≡ b
        → All P (if b then missing_after rows before digests else missing_after rows (before ++ digest ∷ []) digests)
    by later true is = later before have
    by later false is =
        let new = no_passed (is_some (micro_of rows digest)) (is_among before digest) is in
        later (before ++ digest ∷ [])
        (All-push P before digest have (so digest (record { named = first_named digest digests; missing = new.0 })))

not_among : (before : List (List ℕ)) (digest : List ℕ) → is_among before digest ≡ false → All (λ other. Differ other digest) before
not_among [] digest is = All-nil (λ other. Differ other digest)
not_among (other ∷ before) digest is =
    let both = no_passed (bytes_eq other digest) (is_among before digest) is in
    All-cons (λ other. Differ other digest) other before both.0 (not_among before digest both.1)

-- each is there once
pub each_once : (rows : Rows) (before digests : List (List ℕ)) → AllPairs Differ before
    → AllPairs Differ (missing_after rows before digests)
each_once rows before [] apart = apart
each_once rows before (digest ∷ digests) apart =
    by (λ before apart. each_once rows before digests apart) (is_passed rows before digest) refl
  where
    by : ((before : List (List ℕ)) → AllPairs Differ before → AllPairs Differ (missing_after rows before digests)) → (b : Bool)
        → is_passed rows before digest ≡ b
        → AllPairs Differ (if b then missing_after rows before digests else missing_after rows (before ++ digest ∷ []) digests)
    by later true is = later before apart
    by later false is =
        let new = no_passed (is_some (micro_of rows digest)) (is_among before digest) is in
        later (before ++ digest ∷ [])
        (all_pairs_push Differ before digest apart (λ k d lt. not_among before digest new.1 k d lt))

none_twice : AllPairs Differ []
none_twice i j d lt in_list = absurd (omega arith)

-- so of all that are missing
pub missing_once : (rows : Rows) (digests : List (List ℕ)) → AllPairs Differ (missing_digests rows digests)
missing_once rows digests = each_once rows [] digests none_twice

few_taken : (n : ℕ) (all : List (List ℕ)) → length (take n all) ≤ n
few_taken n all = grind (arith, common_steps)

-- all that is wanted
pub wanted_are : (rows : Rows) (digests : List (List ℕ)) → AreWanted rows digests (first_missing rows digests)
wanted_are rows digests = record {
  missing = All-take (IsMissing rows digests) most_wanted (missing_digests rows digests)
      (each_missing rows (IsMissing rows digests) [] digests (All-nil (IsMissing rows digests)) (λ digest is. is));
  few = few_taken most_wanted (missing_digests rows digests);
  none = none_wanted rows digests;
  only = all_held rows digests;
}
