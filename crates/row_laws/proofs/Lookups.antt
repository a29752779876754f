-- What is looked up among items with their places is what is looked up without them.
use Rattle.std.proofs.Common.{◌≡◌, Bool, true, false, List, [], ◌∷◌, Option, Some, None, refl, ap, ◌∙◌}
use Rattle.std.{proofs.lemmas.List.Elements.{All-head, All-tail}, specs.Prelude.{All, map, if◌then◌else◌}}
use Rattle.std.specs.{List.{cons_option, filter_map, find, fold}, Option.option_map}
use Rattle.frame_terms.specs.{Keywords.same, declared.{document.Taken.Taken, keyword.Keyword.Keyword}}
use Rattle.frame_values.specs.Values.{item_at}
use Rattle.row_laws.proofs.Spoken.{Spoken, spoken}

module _ {F : Type 0} where
  -- what the first item of a keyword says
  abbrev pub first_said : List (Spoken F) → Keyword → Option F
  first_said said keyword =
      option_map (λ (one : Spoken F). one.value) (find (λ (one : Spoken F). same one.keyword keyword) said)

module _ {V F : Type 0} (said : V → F) where
  abbrev pub say_all : List (Taken V) → List (Spoken F)
  say_all taken = map (λ (one : Taken V). spoken one.keyword (said one.value)) taken

  -- what an item says, where there is one
  abbrev pub say_if : Option (Taken V) → Option F
  say_if one = option_map (λ (one : Taken V). said one.value) one

  found_first : (taken : List (Taken V)) (keyword : Keyword)
      → say_if (item_at taken keyword) ≡ first_said (say_all taken) keyword
  found_first [] keyword = refl
  found_first (one ∷ taken) keyword = by (same one.keyword keyword) (found_first taken keyword)
    where
      by : (t : Bool) → say_if (item_at taken keyword) ≡ first_said (say_all taken) keyword
          → say_if (if t then Some one else item_at taken keyword)
          ≡ option_map (λ (one : Spoken F). one.value)
          (if t then Some (spoken one.keyword (said one.value))
          else find (λ (one : Spoken F). same one.keyword keyword) (say_all taken))
      by true is = refl
      by false is = is

  -- by the first item of a keyword
  pub looked_up : {A : Type 0} (g : Option (Taken V) → A) (h : Option F → A) →
      ((o : Option (Taken V)) → g o ≡ h (say_if o))
      → (taken : List (Taken V)) (keyword : Keyword) → g (item_at taken keyword) ≡ h
      (first_said (say_all taken) keyword)
  looked_up g h same_ taken keyword = same_ (item_at taken keyword) ∙ ap h (found_first taken keyword)

  -- by all items
  pub collected : {A B : Type 0} (g : A → B) (f : V → Option A) (h : F → Option B)
      → ((v : V) → option_map g (f v) ≡ h (said v)) → (taken : List (Taken V))
      → map g (filter_map (λ (one : Taken V). f one.value) taken)
      ≡ filter_map (λ (one : Spoken F). h one.value) (say_all taken)
  collected g f h same_ [] = refl
  collected {A} {B} g f h same_ (one ∷ taken) =
      by (f one.value)
      ∙ ap (λ (o : Option B). cons_option o (map g rest)) (same_ one.value)
      ∙ ap (cons_option (h (said one.value))) (collected g f h same_ taken)
    where
      rest : List A
      rest = filter_map (λ (one : Taken V). f one.value) taken

      by : (o : Option A) → map g (cons_option o rest) ≡ cons_option (option_map g o) (map g rest)
      by None = refl
      by (Some a) = refl

-- ---- section by section

-- what holds of nothing, and of what is kept with one more section, holds of what is kept of all
pub fold_holds : {K G : Type 0} (P : K → Type 0) (Q : G → Type 0) (with_ : K → G → K)
    → ((kept : K) (group : G) → P kept → Q group → P (with_ kept group)) → (groups : List G) (kept : K) → All Q groups
    → P kept → P (fold with_ kept groups)
fold_holds P Q with_ step [] kept each is = is
fold_holds P Q with_ step (group ∷ groups) kept each is =
    fold_holds P Q with_ step groups (with_ kept group) (All-tail Q group groups each)
    (step kept group is (All-head Q group groups each))
