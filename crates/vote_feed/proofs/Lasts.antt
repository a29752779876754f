-- The last of a list.
use Rattle.std.{proofs.Common.{◌≡◌, List, [], ◌∷◌, ◌++◌, refl, sym, ap, ◌∙◌}, specs.Prelude.map}

module _ {A : Type 0} where
  abbrev tail_of : List A → List A
  tail_of [] = []
  tail_of (a ∷ list) = list

  abbrev head_or : A → List A → A
  head_or other [] = other
  head_or other (a ∷ list) = a

  abbrev last_or : A → List A → A
  last_or other [] = other
  last_or other (a ∷ list) = last_or a list

  last_there : (other : A) (list : List A) (last : A) → last_or other (list ++ last ∷ []) ≡ last
  last_there other [] last = refl
  last_there other (a ∷ list) last = last_there a list last

  -- one list has one last
  pub same_last : (front other : List A) (a b : A) → front ++ a ∷ [] ≡ other ++ b ∷ [] → a ≡ b
  same_last front other a b is =
      sym (last_there a front a) ∙ ap (last_or a) is ∙ last_there a other b

-- where the images of a list end so, the list ends with one of that image
pub record EndsIn {A B : Type 0} (f : A → B) (list : List A) (image : B) : Type 0 where
  pub before : List A
  pub last : A
  pub parts : list ≡ before ++ last ∷ []
  pub is : f last ≡ image

pub last_image : {A B : Type 0} (f : A → B) (list : List A) (front : List B) (image : B)
    → map f list ≡ front ++ image ∷ [] → EndsIn f list image
last_image f [] [] image is = absurd (cc is)
last_image f [] (b ∷ front) image is = absurd (cc is)
last_image f (a ∷ []) [] image is = record { before = []; last = a; parts = refl; is = ap (head_or image) is }
last_image f (a ∷ b ∷ list) [] image is = let none = ap tail_of is in absurd (cc none)
last_image f (a ∷ list) (b ∷ front) image is =
    let more = last_image f list front image (ap tail_of is) in
    record {
      before = a ∷ more.before;
      last = more.last;
      parts = ap (λ l. a ∷ l) more.parts;
      is = more.is;
    }
