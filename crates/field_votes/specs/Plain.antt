-- The chosen value and the voted versions, in plain words.
use Rattle.std.specs.Prelude.{◌≡◌, ◌≤◌, ℕ, false, List, AllPairs, Contains, Option, Some}
use Rattle.std.specs.{declared.cmp.Ordering.{Ordering, TheVariants.Less}, Ordering.is_gt}
use Rattle.count_terms.specs.Choosing.{times, chosen}
use Rattle.dir_values.specs.FlagSets.{has_flag}
use Rattle.field_votes.specs.Versions.{is_listed_by_most, lists_there, text_order, voted_versions}

-- What the chosen one of some values is.
pub record IsChosen {A : Type 0} (order : A → A → Ordering) (list : List A) (x : A) : Type 0 where
  -- it is one of them
  pub member : Contains list x
  -- none stands more often
  pub most : (y : A) → Contains list y → times order list y ≤ times order list x
  -- none that stands as often is greater
  pub best : (y : A) → Contains list y → times order list y ≡ times order list x → is_gt (order y x) ≡ false

-- The chosen value is so.
abbrev pub ChosenIsChosen : {A : Type 0} → (A → A → Ordering) → Type 0
ChosenIsChosen {A} order = (list : List A) (x : A) → chosen order list ≡ Some x → IsChosen order list x

-- What the voted versions of some lists are.
pub record AreVoted (lists : List (Option (List (List ℕ)))) (versions : List (List ℕ)) : Type 0 where
  -- a version is among them exactly where more than half of the lists have it that are there
  pub those : (version : List ℕ) → has_flag versions version ≡ is_listed_by_most (lists_there lists) version
  -- they ascend, each once
  pub ascend : AllPairs (λ earlier later. text_order earlier later ≡ Less) versions

-- The voted versions are so.
abbrev pub VotedVersionsAreThoseOfMost : Type 0
VotedVersionsAreThoseOfMost = (lists : List (Option (List (List ℕ)))) → AreVoted lists (voted_versions lists)
