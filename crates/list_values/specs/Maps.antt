-- Values by their names.
use Rattle.std.specs.{Prelude.{◌≡◌, ℕ, Bool, true, List, [], ◌∷◌, AllPairs, map, Option, if◌then◌else◌}, List.find}
use Rattle.std.specs.{Option.option_map, Str.bytes_eq}
use Rattle.dir_values.specs.Digests.{bytes_below}
use Rattle.list_values.specs.declared.named.Named.{Named}

module _ {V : Type 0} where
  -- a value with a name
  abbrev pub named_value : List ℕ → V → Named V
  named_value name value = record { name = name; value = value }

  -- whether an entry has a name
  abbrev pub has_name : List ℕ → Named V → Bool
  has_name name entry = bytes_eq entry.name name

  -- the value for a name, if there is one
  abbrev pub value_at : List (Named V) → List ℕ → Option V
  value_at entries name = option_map (λ (entry : Named V). entry.value) (find (has_name name) entries)

  -- the names of some values, in their order
  abbrev pub names_of : List (Named V) → List (List ℕ)
  names_of entries = map (λ (entry : Named V). entry.name) entries

  -- values in ascending order of their names' bytes, each name once
  abbrev pub Ascend : List (Named V) → Type 0
  Ascend entries = AllPairs (λ (earlier later : Named V). bytes_below earlier.name later.name ≡ true) entries

  -- ascending values with one for a name, in its place; it takes the place of the one before
  abbrev pub with_value : List (Named V) → List ℕ → V → List (Named V)
  with_value [] name value = named_value name value ∷ []
  with_value (first ∷ rest) name value =
      if bytes_below first.name name then first ∷ with_value rest name value
      else if bytes_eq first.name name then named_value first.name value ∷ rest
      else named_value name value ∷ first ∷ rest
