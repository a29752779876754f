-- What holds of the members of lists holds of what is found in them, kept of them and made of them.
use Rattle.std.proofs.Common.{Bool, true, false, List, [], ◌∷◌, Option, Some, None, map}
use Rattle.std.proofs.lemmas.List.Elements.{All-append, All-cons, All-filter, All-head, All-nil, All-tail, All-weaker}
use Rattle.std.{proofs.lemmas.Option.IfSome_then, specs.Prelude.{All, AllPairs, IfSome, unwrap_or, filter, option_map}}
use Rattle.std.specs.{Prelude.if◌then◌else◌, List.{cons_option, filter_map, find, flat_map}}
use Rattle.dir_values.proofs.Orders.{AllPairs-cons, AllPairs-head, AllPairs-nil, AllPairs-tail}

module _ {A : Type 0} (P : A → Type 0) where
  -- what is found is a member
  pub IfSome-find : (p : A → Bool) (list : List A) → All P list → IfSome (find p list) P
  IfSome-find p [] all = tt
  IfSome-find p (x ∷ rest) all = by (p x) (All-head P x rest all) (IfSome-find p rest (All-tail P x rest all))
    where
      by : (b : Bool) → P x → IfSome (find p rest) P → IfSome (if b then Some x else find p rest) P
      by true its later = its
      by false its later = later

  -- the value that is there, or another
  pub unwrapped : (o : Option A) (other : A) → IfSome o P → P other → P (unwrap_or o other)
  unwrapped None other is its = its
  unwrapped (Some x) other is its = is

  -- the members of the lists that are made
  pub All-flat_map : {X : Type 0} (f : X → List A) (list : List X) → All (λ (x : X). All P (f x)) list
      → All P (flat_map f list)
  All-flat_map f [] all = All-nil P
  All-flat_map {X} f (x ∷ rest) all =
      All-append P (f x) (flat_map f rest) (All-head (λ (y : X). All P (f y)) x rest all)
      (All-flat_map f rest (All-tail (λ (y : X). All P (f y)) x rest all))

  -- the value that is made of one
  pub IfSome-map : {X : Type 0} (f : X → A) (o : Option X) → IfSome o (λ (x : X). P (f x)) → IfSome (option_map f o) P
  IfSome-map f None is = tt
  IfSome-map f (Some x) is = is

  -- the values that are made, where there is one
  pub All-filter_map : {X : Type 0} (f : X → Option A) (list : List X) → All (λ (x : X). IfSome (f x) P) list
      → All P (filter_map f list)
  All-filter_map f [] all = All-nil P
  All-filter_map {X} f (x ∷ rest) all =
      by (f x) (All-head (λ (y : X). IfSome (f y) P) x rest all)
      (All-filter_map f rest (All-tail (λ (y : X). IfSome (f y) P) x rest all))
    where
      by : (o : Option A) → IfSome o P → All P (filter_map f rest) → All P (cons_option o (filter_map f rest))
      by None is later = later
      by (Some y) is later = All-cons P y (filter_map f rest) is later

-- pairs of values that are made, where there is one: each is such that the order of what they are made of is theirs
module _ {A B : Type 0} (R : A → A → Type 0) (S : B → B → Type 0) (Q : A → B → Type 0) (f : A → Option B)
    (is : (x : A) → IfSome (f x) (Q x)) (carries : (x y : A) (a b : B) → Q x a → Q y b → R x y → S a b) where
  pub AllPairs-filter_map : (list : List A) → AllPairs R list → AllPairs S (filter_map f list)
  AllPairs-filter_map [] up = AllPairs-nil S
  AllPairs-filter_map (x ∷ rest) up = by (f x) (is x) (AllPairs-filter_map rest (AllPairs-tail R x rest up))
    where
      behind : (a : B) → Q x a → All (S a) (filter_map f rest)
      behind a its =
          All-filter_map (S a) f rest
          (All-weaker (R x) (λ (y : A). IfSome (f y) (S a))
          (λ y r. IfSome_then (f y) {P = Q y} {Q = S a} (is y) (λ b other. carries x y a b its other r)) rest
          (AllPairs-head R x rest up))

      by : (o : Option B) → IfSome o (Q x) → AllPairs S (filter_map f rest) → AllPairs S (cons_option o (filter_map f rest))
      by None its later = later
      by (Some a) its later = AllPairs-cons S a (filter_map f rest) (behind a its) later
