-- The canonical forms of names, name by name.
use Rattle.std.{proofs.Common.{◌≡◌, ◌∙◌, ℕ, List, [], ◌∷◌, refl, ap}, specs.Prelude.{Bool, false, ◌||◌, Option, Some}}
use Rattle.std.specs.{Prelude.{None, filter_map}, List.{list_any, cons_option}, Option.option_map_or, Str.bytes_eq}
use Rattle.descriptor_frame.specs.Families.{is_form_of, member_of}

-- whether a text is this form, or one of others
one_form : (form : Option (List ℕ)) (forms : List (List ℕ)) (text : List ℕ)
    → list_any (λ other. bytes_eq other text) (cons_option form forms)
    ≡ (option_map_or (λ other. bytes_eq other text) form false || list_any (λ other. bytes_eq other text) forms)
one_form None forms text = refl
one_form (Some form) forms text = refl

-- a text is one of the forms of some names exactly where it is the form of one of them
pub forms_of_names : (names : List (List ℕ)) (text : List ℕ)
    → list_any (λ other. bytes_eq other text) (filter_map member_of names) ≡ list_any (is_form_of text) names
forms_of_names [] text = refl
forms_of_names (name ∷ rest) text =
    one_form (member_of name) (filter_map member_of rest) text
    ∙ ap (λ (b : Bool). is_form_of text name || b) (forms_of_names rest text)
