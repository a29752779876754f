-- The versions that votes agree on are versions.
use Rattle.std.proofs.{Common.{◌≡◌, ℕ, true, List, [], ◌∷◌, Option, map}, lemmas.List.Elements.{All-cons, All-filter}}
use Rattle.std.{proofs.lemmas.List.Elements.{All-head, All-map, All-nil, All-tail, All-weaker}, specs.Prelude.All}
use Rattle.std.specs.{Prelude.IfSome, declared.cmp.Ordering.{Ordering, TheVariants.{Less, Equal, Greater}}}
use Rattle.std.specs.{List.{flat_map, fold}, Ordering.match_ordering}
use Rattle.list_values.specs.VersionLists.{is_version}
use Rattle.value_laws.specs.Ranges.{AreVersionsInRange}
use Rattle.field_votes.specs.Versions.{all_versions, is_listed_by_most, lists_there, text_order, with_version}
use Rattle.vote_terms.specs.{Votes.ReadVote, declared.lists.VoteLists.VoteLists}
use Rattle.compute_terms.specs.Lists.{listed_versions}
use Rattle.computed_laws.proofs.Kept.{All-filter_map, All-flat_map}

abbrev IsVersion : List ℕ → Type 0
IsVersion text = is_version text ≡ true

All-with_version : (P : List ℕ → Type 0) (versions : List (List ℕ)) (version : List ℕ) → All P versions → P version
    → All P (with_version versions version)
All-with_version P [] version all its = All-cons P version [] its all
All-with_version P (first ∷ rest) version all its =
    by (text_order version first) (All-with_version P rest version (All-tail P first rest all) its)
  where
    by : (o : Ordering) → All P (with_version rest version)
        → All P (match_ordering o (version ∷ first ∷ rest) (first ∷ rest) (first ∷ with_version rest version))
    by Less later = All-cons P version (first ∷ rest) its all
    by Equal later = all
    by Greater later = All-cons P first (with_version rest version) (All-head P first rest all) later

fold_in : (P : List ℕ → Type 0) (versions set : List (List ℕ)) → All P set → All P versions
    → All P (fold with_version set versions)
fold_in P [] set its all = its
fold_in P (version ∷ rest) set its all =
    fold_in P rest (with_version set version) (All-with_version P set version its (All-head P version rest all))
    (All-tail P version rest all)

-- a line of versions that votes have
pub versions_in_range : (line : VoteLists → Option (List (List ℕ))) (votes : List ReadVote)
    → All (λ (vote : ReadVote). IfSome (line vote.says.lists) AreVersionsInRange) votes
    → AreVersionsInRange (listed_versions line votes)
versions_in_range line votes all =
    let lists : List (Option (List (List ℕ))) = map (λ (vote : ReadVote). line vote.says.lists) votes in
    let there : List (List (List ℕ)) = lists_there lists in
    let each : All AreVersionsInRange there =
    All-filter_map AreVersionsInRange (λ (list : Option (List (List ℕ))). list) lists
    (All-map (λ (list : Option (List (List ℕ))). IfSome list AreVersionsInRange)
    (λ (vote : ReadVote). line vote.says.lists) votes all) in
    let texts : List (List ℕ) = flat_map (λ (list : List (List ℕ)). list) there in
    let every : All IsVersion texts =
    All-flat_map IsVersion (λ (list : List (List ℕ)). list) there
    (All-weaker AreVersionsInRange (λ (list : List (List ℕ)). All IsVersion list) (λ list are. are.each) there each) in
    record {
      each = All-filter (is_listed_by_most there) IsVersion (all_versions there)
          (fold_in IsVersion texts [] (All-nil IsVersion) every);
    }
