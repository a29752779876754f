-- The versions that lists of versions agree on (dir-spec, "Computing a consensus from a set of votes", `client-versions`
-- and `server-versions`).
use Rattle.std.specs.{Prelude.{ℕ, Bool, List, [], Option, count_by, filter, length}, BTreeSet.insert_key}
use Rattle.std.specs.{Cmp.Lexicographic.slice_cmp, declared.cmp.Ordering.Ordering, List.{filter_map, flat_map, fold}}
use Rattle.std.specs.{Option.option_cmp, Ordering.{nat_cmp, ordering_then}}
use Rattle.count_terms.specs.Counts.{over}
use Rattle.dir_values.specs.{FlagSets.has_flag, Versions.{version_of, version_order}}

-- the order of texts by the versions that they spell, and then by their bytes; one that spells none comes first
abbrev pub text_order : List ℕ → List ℕ → Ordering
text_order a b = ordering_then (option_cmp version_order (version_of a) (version_of b)) (slice_cmp nat_cmp a b)

-- ascending versions with one more in its place, unless it is there
abbrev pub with_version : List (List ℕ) → List ℕ → List (List ℕ)
with_version versions version = insert_key text_order versions version

-- versions in ascending order, each once
abbrev pub in_order : List (List ℕ) → List (List ℕ)
in_order versions = fold with_version [] versions

-- the lists that are there
abbrev pub lists_there : List (Option (List (List ℕ))) → List (List (List ℕ))
lists_there lists = filter_map (λ list. list) lists

-- the versions that some list has, in ascending order, each once
abbrev pub all_versions : List (List (List ℕ)) → List (List ℕ)
all_versions lists = in_order (flat_map (λ list. list) lists)

-- how many lists have a version
abbrev pub listing_count : List (List (List ℕ)) → List ℕ → ℕ
listing_count lists version = count_by (λ list. has_flag list version) lists

-- whether more than half of the lists have a version
abbrev pub is_listed_by_most : List (List (List ℕ)) → List ℕ → Bool
is_listed_by_most lists version = over (listing_count lists version) (length lists)

-- the versions that more than half of the lists have that are there, in ascending order, each once
abbrev pub voted_versions : List (Option (List (List ℕ))) → List (List ℕ)
voted_versions lists = filter (is_listed_by_most (lists_there lists)) (all_versions (lists_there lists))
