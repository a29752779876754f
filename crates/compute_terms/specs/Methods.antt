-- The method of a consensus (dir-spec, "Computing a consensus from a set of votes").
use Rattle.std.specs.Prelude.{ℕ, List, [], map, unwrap_or}
use Rattle.count_terms.specs.declared.newest.Newest.{Newest}
use Rattle.field_votes.specs.Methods.{method_of}
use Rattle.vote_terms.specs.Votes.{ReadVote}

-- the methods that each vote lists, none where it has no such line
abbrev pub listed_methods : List ReadVote → List (List ℕ)
listed_methods votes = map (λ (vote : ReadVote). unwrap_or vote.says.methods []) votes

-- the method that the votes choose, where this is the newest that is known
abbrev pub chosen_method : Newest → List ReadVote → ℕ
chosen_method newest votes = method_of newest (listed_methods votes)
