-- What the text of an item is, where there is one.
use Rattle.std.{proofs.Common.{ℕ, List, Option, Some, None}, specs.Prelude.{IfSome, option_map}}
use Rattle.frame_terms.specs.declared.document.Taken.{Taken}
use Rattle.frame_values.specs.{Parts.part, Values.{text_if, text_of_value}, declared.values.Value.Value}
use Rattle.frame_values.specs.declared.values.Value.TheVariants as value

module _ {W : Type 0} where
  -- a value's text is such, where it is one
  abbrev pub TextIs : (List ℕ → Type 0) → List ℕ → Value W → Type 0
  TextIs P bytes (value.Text span) = P (part bytes span)
  TextIs P bytes _ = Unit {0}

  text_of : (P : List ℕ → Type 0) (bytes : List ℕ) (v : Value W) → TextIs P bytes v
      → IfSome (option_map (part bytes) (text_of_value v)) P
  text_of P bytes (value.Text span) is = is
  text_of P bytes _ is = tt

  -- what the text of an item is, where there is one
  pub text_ranged : (P : List ℕ → Type 0) (bytes : List ℕ) (one : Option (Taken (Value W)))
      → IfSome one (λ o. TextIs P bytes o.value) → IfSome (option_map (part bytes) (text_if one)) P
  text_ranged P bytes None is = tt
  text_ranged P bytes (Some one) is = text_of P bytes one.value is
