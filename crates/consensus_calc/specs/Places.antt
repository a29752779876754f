-- Places that are kept.
use Rattle.std.specs.Prelude.{Bool, List, [], ◌∷◌, ◌++◌, if◌then◌else◌}
use Rattle.compute_terms.specs.declared.belong.Belong.{Belong}

-- some places and one more, if it is wanted
abbrev pub with_place : List Belong → Belong → Bool → List Belong
with_place members at wanted = if wanted then members ++ at ∷ [] else members
