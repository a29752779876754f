-- The keys of a tree of borrowed versions, as a set of versions.
use Rattle.std.proofs.Common.{◌≡◌, ℕ, Bool, true, false, List, [], ◌∷◌, length, map, refl, sym, ap, ap₂, ◌∙◌, suc, ◌+◌}
use Rattle.std.{proofs.lemmas.List.Sums.sum_by-cons, specs.{Prelude.{◌||◌, filter, if◌then◌else◌}, BTreeMap.is_at}}
use Rattle.std.specs.{BTreeSet.insert_key, declared.cmp.Ordering.{Ordering, TheVariants.{Less, Equal, Greater}}}
use Rattle.std.specs.{List.{list_any, fold}, Ordering.match_ordering, Str.bytes_eq}
use Rattle.count_terms.specs.Counts.{over}
use Rattle.dir_values.specs.FlagSets.{has_flag}
use Rattle.field_votes.specs.{declared.version_text.VersionText.VersionText, VersionSets.texts_in, Versions.text_order}
use Rattle.field_votes.specs.Versions.{with_version, in_order, listing_count, is_listed_by_most}
use Rattle.field_votes.proofs.VersionTexts.{one_text, ties_as_one}

-- the order of borrowed texts
abbrev pub borrowed_order : VersionText → VersionText → Ordering
borrowed_order a b = text_order a.text.now b.text.now

through : (o : Ordering) (a b c : List VersionText)
    → texts_in (match_ordering o a b c) ≡ match_ordering o (texts_in a) (texts_in b) (texts_in c)
through Less a b c = refl
through Equal a b c = refl
through Greater a b c = refl

-- one more key is one more version
pub texts_with : (keys : List VersionText) (version : VersionText)
    → texts_in (insert_key borrowed_order keys version) ≡ with_version (texts_in keys) version.text.now
texts_with [] version = refl
texts_with (first ∷ rest) version =
    through (borrowed_order version first) (version ∷ first ∷ rest) (first ∷ rest)
    (first ∷ insert_key borrowed_order rest version)
    ∙ ap (λ (l : List (List ℕ)). match_ordering (borrowed_order version first)
    (version.text.now ∷ first.text.now ∷ texts_in rest) (first.text.now ∷ texts_in rest) (first.text.now ∷ l)) (texts_with rest version)

-- a key that ties is the version
pub texts_have : (keys : List VersionText) (version : VersionText)
    → list_any (is_at (borrowed_order version)) keys ≡ has_flag (texts_in keys) version.text.now
texts_have [] version = refl
texts_have (first ∷ rest) version =
    ap₂ (λ (a b : Bool). a || b) (ties_as_one version.text.now first.text.now) (texts_have rest version)

or_last : (a b c : Bool) → (c || (a || b)) ≡ ((a || b) || c)
or_last true b true = refl
or_last true b false = refl
or_last false true true = refl
or_last false true false = refl
or_last false false true = refl
or_last false false false = refl

or_assoc : (a b c : Bool) → (a || (b || c)) ≡ ((a || b) || c)
or_assoc true b c = refl
or_assoc false b c = refl

or_there : (a b c : Bool) → a ≡ c → (a || b) ≡ ((a || b) || c)
or_there true b c h = refl
or_there false b true h = absurd cc
or_there false true false h = refl
or_there false false false h = refl

-- which versions there are once one more was put in
has-with_version : (set : List (List ℕ)) (version other : List ℕ)
    → has_flag (with_version set version) other ≡ (has_flag set other || bytes_eq version other)
has-with_version [] version other = or_last false false (bytes_eq version other)
has-with_version (first ∷ rest) version other =
    by (text_order version first) refl (has-with_version rest version other)
  where
    by : (o : Ordering) → text_order version first ≡ o
        → has_flag (with_version rest version) other ≡ (has_flag rest other || bytes_eq version other)
        → has_flag (match_ordering o (version ∷ first ∷ rest) (first ∷ rest) (first ∷ with_version rest version)) other
        ≡ ((bytes_eq first other || has_flag rest other) || bytes_eq version other)
    by Less is later = or_last (bytes_eq first other) (has_flag rest other) (bytes_eq version other)
    by Equal is later =
        or_there (bytes_eq first other) (has_flag rest other) (bytes_eq version other)
        (ap (λ (t : List ℕ). bytes_eq t other) (sym (one_text version first is)))
    by Greater is later =
        ap (λ (t : Bool). bytes_eq first other || t) later
        ∙ or_assoc (bytes_eq first other) (has_flag rest other) (bytes_eq version other)

fold_has : (versions set : List (List ℕ)) (other : List ℕ)
    → has_flag (fold with_version set versions) other ≡ (has_flag set other || has_flag versions other)
fold_has [] set other = or_last false (has_flag set other) false
fold_has (version ∷ rest) set other =
    fold_has rest (with_version set version) other
    ∙ ap (λ (t : Bool). t || has_flag rest other) (has-with_version set version other)
    ∙ sym (or_assoc (has_flag set other) (bytes_eq version other) (has_flag rest other))

-- versions in order are those versions
pub has-in_order : (versions : List (List ℕ)) (other : List ℕ)
    → has_flag (in_order versions) other ≡ has_flag versions other
has-in_order versions other = fold_has versions [] other

count_in_order : (lists : List (List (List ℕ))) (version : List ℕ)
    → listing_count (map in_order lists) version ≡ listing_count lists version
count_in_order [] version = refl
count_in_order (first ∷ rest) version =
    let one : List (List ℕ) → ℕ = λ list. if has_flag list version then 1 else 0 in
    sum_by-cons one (in_order first) (map in_order rest)
    ∙ ap₂ (λ (b : Bool) (n : ℕ). (if b then 1 else 0) + n) (has-in_order first version) (count_in_order rest version)
    ∙ sym (sum_by-cons one first rest)

length_same : (lists : List (List (List ℕ))) → length (map in_order lists) ≡ length lists
length_same [] = refl
length_same (first ∷ rest) = ap (λ (n : ℕ). suc n) (length_same rest)

-- so most have a version in whatever order
pub most-in_order : (lists : List (List (List ℕ))) (version : List ℕ)
    → is_listed_by_most (map in_order lists) version ≡ is_listed_by_most lists version
most-in_order lists version = ap₂ (λ (n m : ℕ). over n m) (count_in_order lists version) (length_same lists)

filter_same : (p q : List ℕ → Bool) → ((t : List ℕ) → p t ≡ q t) → (texts : List (List ℕ))
    → filter p texts ≡ filter q texts
filter_same p q same [] = refl
filter_same p q same (text ∷ rest) =
    ap₂ (λ (b : Bool) (l : List (List ℕ)). if b then text ∷ l else l) (same text) (filter_same p q same rest)

pub filter-in_order : (lists : List (List (List ℕ))) (versions : List (List ℕ))
    → filter (is_listed_by_most (map in_order lists)) versions ≡ filter (is_listed_by_most lists) versions
filter-in_order lists versions =
    filter_same (is_listed_by_most (map in_order lists)) (is_listed_by_most lists) (most-in_order lists)
    versions
