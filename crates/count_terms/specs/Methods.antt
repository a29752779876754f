-- The consensus methods that are known (dir-spec, "Computing a consensus from a set of votes").
use Rattle.std.specs.Prelude.{ℕ, List, [], ◌∷◌}
use Rattle.count_terms.specs.declared.newest.Newest.{Newest, TheVariants.{Method33, Method34, Method35}}

-- the methods that are known where this is the newest, the greatest first
abbrev pub known_methods : Newest → List ℕ
known_methods Method33 = 33 ∷ 32 ∷ []
known_methods Method34 = 34 ∷ 33 ∷ 32 ∷ []
known_methods Method35 = 35 ∷ 34 ∷ 33 ∷ 32 ∷ []
