-- What votes say of names: the names are such, and what holds of each value holds of those for one name.
use Rattle.std.proofs.{Common.{◌≡◌, ℕ, true, List, [], Option}, lemmas.List.Elements.{All-map, All-weaker}}
use Rattle.std.specs.{Prelude.{All, IfSome, unwrap_or}, List.{find, flat_map}}
use Rattle.dir_values.specs.FlagSets as flag_sets
use Rattle.dir_values.{specs.FlagSets.is_name, proofs.Flags.Ascend-as_set}
use Rattle.list_values.specs.{declared.named.Named.Named, Maps.{has_name, names_of, value_at}}
use Rattle.field_votes.specs.Lists.{all_names, values_in}
use Rattle.vote_terms.specs.{Votes.ReadVote, declared.lists.VoteLists.VoteLists}
use Rattle.compute_terms.specs.Lists.{members_of}
use Rattle.vote_laws.proofs.FlagSets.{All-as_set}
use Rattle.computed_laws.proofs.Kept.{All-filter_map, All-flat_map, IfSome-find, IfSome-map, unwrapped}

-- what a line of each vote has, where it has the line
pub members_in : {A : Type 0} (P : List A → Type 0) (line : VoteLists → Option (List A)) (votes : List ReadVote) → P []
    → All (λ (vote : ReadVote). IfSome (line vote.says.lists) P) votes → All P (members_of line votes)
members_in {A} P line votes none all =
    All-map P (λ (vote : ReadVote). unwrap_or (line vote.says.lists) []) votes
    (All-weaker (λ (vote : ReadVote). IfSome (line vote.says.lists) P)
    (λ (vote : ReadVote). P (unwrap_or (line vote.says.lists) []))
    (λ vote is. unwrapped P (line vote.says.lists) [] is none) votes all)

module _ {V : Type 0} where
  -- a value has a name
  abbrev pub HasName : Named V → Type 0
  HasName entry = is_name entry.name ≡ true

  -- the names of all lists are names
  pub names_in_range : (lists : List (List (Named V))) → All (All HasName) lists
      → All (λ (name : List ℕ). is_name name ≡ true) (all_names lists)
  names_in_range lists all =
      let IsName : List ℕ → Type 0 = λ name. is_name name ≡ true in
      All-as_set IsName (flat_map names_of lists)
      (All-flat_map IsName names_of lists
      (All-weaker (All HasName) (λ (list : List (Named V)). All IsName (names_of list))
      (λ list each. All-map IsName (λ (entry : Named V). entry.name) list each) lists all))

  -- and ascend
  pub names_ascend : (lists : List (List (Named V))) → flag_sets.Ascend (all_names lists)
  names_ascend lists = Ascend-as_set (flat_map names_of lists)

  -- the values for a name
  pub values_within : (Q : V → Type 0) (lists : List (List (Named V))) (name : List ℕ)
      → All (All (λ (entry : Named V). Q entry.value)) lists → All Q (values_in lists name)
  values_within Q lists name all =
      let IsGood : Named V → Type 0 = λ entry. Q entry.value in
      All-filter_map Q (λ (list : List (Named V)). value_at list name) lists
      (All-weaker (All IsGood) (λ (list : List (Named V)). IfSome (value_at list name) Q)
      (λ list each. IfSome-map Q (λ (entry : Named V). entry.value) (find (has_name name) list)
      (IfSome-find IsGood (has_name name) list each)) lists all)
