-- The consensus method that lists of methods choose (dir-spec, "Computing a consensus from a set of votes").
use Rattle.std.specs.{Prelude.{ℕ, nat_eq, Bool, List, count_by, length, unwrap_or}, List.{find, list_any}}
use Rattle.count_terms.specs.{Counts.two_thirds, Methods.known_methods, declared.newest.Newest.Newest}
use Rattle.count_terms.specs.declared.newest.Newest.TheVariants.{Method33, Method34, Method35}

-- how many lists have a method, each counted once however often it repeats it
abbrev pub supporting_count : List (List ℕ) → ℕ → ℕ
supporting_count lists method = count_by (λ list. list_any (nat_eq method) list) lists

-- whether more than two thirds of the lists have a method
abbrev pub is_supported : List (List ℕ) → ℕ → Bool
is_supported lists method = two_thirds (supporting_count lists method) (length lists)

-- the method where none is agreed on: 32 where the newest that is known is 33, and else the newest
abbrev pub unagreed_method : Newest → ℕ
unagreed_method Method33 = 32
unagreed_method Method34 = 34
unagreed_method Method35 = 35

-- the greatest of the known methods that more than two thirds of the lists have, or else that where none is agreed on
abbrev pub method_of : Newest → List (List ℕ) → ℕ
method_of newest lists = unwrap_or (find (is_supported lists) (known_methods newest)) (unagreed_method newest)
