-- What each item of a list says that stands behind those before it.
use Rattle.std.specs.{Prelude.{List, [], ◌∷◌, ◌++◌, Option}, List.cons_option}

module _ {A B : Type 0} where
  -- what items say that stand behind others, in their order, of those that say something
  abbrev pub gathered_behind : (List A → A → Option B) → List A → List A → List B
  gathered_behind says before [] = []
  gathered_behind says before (item ∷ rest) =
      cons_option (says before item) (gathered_behind says (before ++ item ∷ []) rest)

  -- what the items of a list say, each by those before it
  abbrev pub gathered_values : (List A → A → Option B) → List A → List B
  gathered_values says items = gathered_behind says [] items
