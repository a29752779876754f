-- What is found once a value was put in.
use Rattle.std.proofs.Common.{◌≡◌, ℕ, Bool, true, false, List, [], ◌∷◌, Some, Option, refl, sym, ap, ◌∙◌}
use Rattle.std.specs.{Prelude.if◌then◌else◌, List.find, Option.option_map, Str.bytes_eq}
use Rattle.dir_values.{specs.Digests.bytes_below, proofs.Orders.{apart, same_text}}
use Rattle.list_values.specs.{declared.named.Named.Named, Laws.ValuesAreFound, Maps.{named_value, has_name, value_at}}
use Rattle.list_values.specs.Maps.{with_value}

module _ {V : Type 0} where
  -- the value of the first entry, or what is found behind it
  at_first : (first : Named V) (rest : List (Named V)) (other : List ℕ)
      → value_at (first ∷ rest) other ≡ (if bytes_eq first.name other then Some first.value else value_at rest other)
  at_first first rest other = by (bytes_eq first.name other)
    where
      by : (b : Bool) → option_map (λ (e : Named V). e.value) (if b then Some first else find (has_name other) rest)
          ≡ (if b then Some first.value else value_at rest other)
      by true = refl
      by false = refl

  -- what is behind an earlier name does not matter for that name
  two_names : (first name other : List ℕ) (a v : V) (found : Option V) → bytes_below first name ≡ true
      → (if bytes_eq first other then Some a else if bytes_eq name other then Some v else found)
      ≡ (if bytes_eq name other then Some v else if bytes_eq first other then Some a else found)
  two_names first name other a v found below = by (bytes_eq first other) (bytes_eq name other) refl refl
    where
      by : (b c : Bool) → bytes_eq first other ≡ b → bytes_eq name other ≡ c
          → (if b then Some a else if c then Some v else found) ≡ (if c then Some v else if b then Some a else found)
      by true true is its =
          let one : name ≡ first = same_text name other its ∙ sym (same_text first other is) in
          let same : false ≡ bytes_eq first other = sym (apart first name below) ∙ ap (bytes_eq first) (same_text name other its) in
          let impossible : false ≡ true = same ∙ is in
          absurd cc
      by true false is its = refl
      by false true is its = refl
      by false false is its = refl

  pub values_found : ValuesAreFound V
  values_found [] name value other = at_first (named_value name value) [] other
  values_found (first ∷ rest) name value other =
      by (bytes_below first.name name) (bytes_eq first.name name) refl refl (values_found rest name value other)
    where
      by : (b e : Bool) → bytes_below first.name name ≡ b → bytes_eq first.name name ≡ e
          → value_at (with_value rest name value) other ≡ (if bytes_eq name other then Some value else value_at rest other)
          → value_at (if b then first ∷ with_value rest name value else if e then named_value first.name value ∷ rest
          else named_value name value ∷ first ∷ rest) other
          ≡ (if bytes_eq name other then Some value else value_at (first ∷ rest) other)
      by true e below same later =
          at_first first (with_value rest name value) other
          ∙ ap (λ (o : Option V). if bytes_eq first.name other then Some first.value else o) later
          ∙ two_names first.name name other first.value value (value_at rest other) below
          ∙ ap (λ (o : Option V). if bytes_eq name other then Some value else o) (sym (at_first first rest other))
      by false true below same later =
          let one : first.name ≡ name = same_text first.name name same in
          let behind : (c : Bool) → (if c then Some value else value_at rest other)
          ≡ (if c then Some value else (if c then Some first.value else value_at rest other)) =
          λ c. elim c as (λ c. (if c then Some value else value_at rest other)
          ≡ (if c then Some value else (if c then Some first.value else value_at rest other))) [
            | true ↦ refl
            | false ↦ refl
          ] in
          at_first (named_value first.name value) rest other
          ∙ behind (bytes_eq first.name other)
          ∙ ap (λ (n : List ℕ). if bytes_eq n other then Some value
          else (if bytes_eq first.name other then Some first.value else value_at rest other)) one
          ∙ ap (λ (o : Option V). if bytes_eq name other then Some value else o) (sym (at_first first rest other))
      by false false below same later = at_first (named_value name value) (first ∷ rest) other
