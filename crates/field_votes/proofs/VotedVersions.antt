-- The versions that most lists have, in plain words: those and no others, and they ascend.
use Rattle.std.proofs.Common.{◌≡◌, ℕ, ◌+◌, Bool, true, false, List, [], ◌∷◌, ◌++◌, length, refl, sym, ap, ap₂, ◌∙◌}
use Rattle.std.proofs.{Common.arith, lemmas.{Bool.{false≢true, le-ltb}, List.Elements.{All-cons, All-head, All-nil}}}
use Rattle.std.proofs.lemmas.List.{Elements.{All-tail, All-weaker}, Folds.list_any-append, Sums.sum_by-cons}
use Rattle.std.specs.{Prelude.{All, AllPairs, ◌*◌, ◌&&◌, ◌||◌, filter, if◌then◌else◌}, declared.cmp.Ordering.Ordering}
use Rattle.std.specs.{declared.cmp.Ordering.TheVariants.{Less, Equal, Greater}, List.{flat_map, fold, list_any}}
use Rattle.std.specs.{Ordering.{match_ordering, ordering_reverse}, Str.bytes_eq}
use Rattle.count_terms.specs.Counts.{over}
use Rattle.dir_values.{specs.FlagSets.has_flag, proofs.Orders.{AllPairs-cons, AllPairs-head, AllPairs-nil}}
use Rattle.dir_values.proofs.Orders.{AllPairs-tail, same_text}
use Rattle.field_votes.specs.{Plain.VotedVersionsAreThoseOfMost, VersionKeys.texts_total, Versions.all_versions}
use Rattle.field_votes.specs.Versions.{in_order, is_listed_by_most, listing_count, lists_there, text_order}
use Rattle.field_votes.{specs.Versions.with_version, proofs.VersionSets.has-in_order}

-- ---- those and no others

-- a text is among those that pass where it is among all, and passes
has-filter : (p : List ℕ → Bool) (texts : List (List ℕ)) (text : List ℕ)
    → has_flag (filter p texts) text ≡ (has_flag texts text && p text)
has-filter p [] text = refl
has-filter p (first ∷ rest) text =
    by (p first) (bytes_eq first text) refl refl (has-filter p rest text)
  where
    both_false : (b c : Bool) → c ≡ false → (b && c) ≡ c
    both_false true c is = refl
    both_false false c is = sym is

    by : (b e : Bool) → p first ≡ b → bytes_eq first text ≡ e
        → has_flag (filter p rest) text ≡ (has_flag rest text && p text)
        → has_flag (if b then first ∷ filter p rest else filter p rest) text ≡ ((e || has_flag rest text) && p text)
    by true true passes same later =
        ap (λ (e : Bool). e || has_flag (filter p rest) text) same ∙ sym (ap p (sym (same_text first text same)) ∙ passes)
    by true false passes same later = ap (λ (e : Bool). e || has_flag (filter p rest) text) same ∙ later
    by false true passes same later =
        later ∙ both_false (has_flag rest text) (p text) (ap p (sym (same_text first text same)) ∙ passes)
    by false false passes same later = later

-- where no list has a version, none is counted
none_counted : (lists : List (List (List ℕ))) (version : List ℕ)
    → has_flag (flat_map (λ list. list) lists) version ≡ false → listing_count lists version ≡ 0
none_counted [] version none = refl
none_counted (first ∷ rest) version none =
    by (has_flag first version) refl (λ other. none_counted rest version other)
    (sym (list_any-append (λ other. bytes_eq other version) first (flat_map (λ list. list) rest)) ∙ none)
  where
    one : List (List ℕ) → ℕ
    one list = if has_flag list version then 1 else 0

    by : (b : Bool) → has_flag first version ≡ b
        → (has_flag (flat_map (λ list. list) rest) version ≡ false → listing_count rest version ≡ 0)
        → (has_flag first version || has_flag (flat_map (λ list. list) rest) version) ≡ false
        → listing_count (first ∷ rest) version ≡ 0
    by true is later none =
        absurd (false≢true (sym none ∙ ap (λ (b : Bool). b || has_flag (flat_map (λ list. list) rest) version) is))
    by false is later none =
        sum_by-cons one first rest
        ∙ ap₂ (λ (b : Bool) (n : ℕ). (if b then 1 else 0) + n) is
        (later (sym (ap (λ (b : Bool). b || has_flag (flat_map (λ list. list) rest) version) is) ∙ none))

-- so a version that most have is among all
among_all : (lists : List (List (List ℕ))) (version : List ℕ)
    → (has_flag (flat_map (λ list. list) lists) version && is_listed_by_most lists version)
    ≡ is_listed_by_most lists version
among_all lists version = by (has_flag (flat_map (λ list. list) lists) version) refl
  where
    by : (b : Bool) → has_flag (flat_map (λ list. list) lists) version ≡ b
        → (b && is_listed_by_most lists version) ≡ is_listed_by_most lists version
    by true is = refl
    by false is =
        sym (ap (λ (n : ℕ). over n (length lists)) (none_counted lists version is)
        ∙ le-ltb (length lists) (2 * 0) (omega arith))

those : (lists : List (List (List ℕ))) (version : List ℕ)
    → has_flag (filter (is_listed_by_most lists) (all_versions lists)) version ≡ is_listed_by_most lists version
those lists version =
    has-filter (is_listed_by_most lists) (all_versions lists) version
    ∙ ap (λ (b : Bool). b && is_listed_by_most lists version) (has-in_order (flat_map (λ list. list) lists) version)
    ∙ among_all lists version

-- ---- they ascend

abbrev Before : List ℕ → List ℕ → Type 0
Before earlier later = text_order earlier later ≡ Less

All-with_version : (P : List ℕ → Type 0) (versions : List (List ℕ)) (version : List ℕ) → All P versions → P version
    → All P (with_version versions version)
All-with_version P [] version all its = All-cons P version [] its all
All-with_version P (first ∷ rest) version all its =
    by (text_order version first) (All-with_version P rest version (All-tail P first rest all) its)
  where
    by : (o : Ordering) → All P (with_version rest version)
        → All P (match_ordering o (version ∷ first ∷ rest) (first ∷ rest) (first ∷ with_version rest version))
    by Less more = All-cons P version (first ∷ rest) its all
    by Equal more = all
    by Greater more = All-cons P first (with_version rest version) (All-head P first rest all) more

ascend-with_version : (versions : List (List ℕ)) (version : List ℕ) → AllPairs Before versions
    → AllPairs Before (with_version versions version)
ascend-with_version [] version up = AllPairs-cons Before version [] (All-nil (Before version)) up
ascend-with_version (first ∷ rest) version up =
    by (text_order version first) refl (ascend-with_version rest version (AllPairs-tail Before first rest up))
  where
    above : All (Before first) rest
    above = AllPairs-head Before first rest up

    by : (o : Ordering) → text_order version first ≡ o → AllPairs Before (with_version rest version)
        → AllPairs Before (match_ordering o (version ∷ first ∷ rest) (first ∷ rest) (first ∷ with_version rest version))
    by Less is more =
        AllPairs-cons Before version (first ∷ rest)
        (All-cons (Before version) first rest is
        (All-weaker (Before first) (Before version) (λ later. texts_total.trans version first later is) rest above)) up
    by Equal is more = up
    by Greater is more =
        AllPairs-cons Before first (with_version rest version)
        (All-with_version (Before first) rest version above (texts_total.antisymm first version ∙ ap ordering_reverse is))
        more

ascend-fold : (versions set : List (List ℕ)) → AllPairs Before set → AllPairs Before (fold with_version set versions)
ascend-fold [] set up = up
ascend-fold (version ∷ rest) set up = ascend-fold rest (with_version set version) (ascend-with_version set version up)

All-filter : (P : List ℕ → Type 0) (p : List ℕ → Bool) (texts : List (List ℕ)) → All P texts → All P (filter p texts)
All-filter P p [] all = all
All-filter P p (first ∷ rest) all =
    by (p first) (All-head P first rest all) (All-filter P p rest (All-tail P first rest all))
  where
    by : (b : Bool) → P first → All P (filter p rest) → All P (if b then first ∷ filter p rest else filter p rest)
    by true its more = All-cons P first (filter p rest) its more
    by false its more = more

ascend-filter : (p : List ℕ → Bool) (texts : List (List ℕ)) → AllPairs Before texts → AllPairs Before (filter p texts)
ascend-filter p [] up = up
ascend-filter p (first ∷ rest) up =
    by (p first) (All-filter (Before first) p rest (AllPairs-head Before first rest up))
    (ascend-filter p rest (AllPairs-tail Before first rest up))
  where
    by : (b : Bool) → All (Before first) (filter p rest) → AllPairs Before (filter p rest)
        → AllPairs Before (if b then first ∷ filter p rest else filter p rest)
    by true all more = AllPairs-cons Before first (filter p rest) all more
    by false all more = more

-- ---- the law

pub voted_law : VotedVersionsAreThoseOfMost
voted_law lists = record {
  those = those (lists_there lists);
  ascend = ascend-filter (is_listed_by_most (lists_there lists)) (all_versions (lists_there lists))
      (ascend-fold (flat_map (λ list. list) (lists_there lists)) [] (AllPairs-nil Before));
}
