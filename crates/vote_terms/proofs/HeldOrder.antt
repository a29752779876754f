-- The held votes ascend by identity.
use Rattle.std.proofs.Common.{suc, List, [], ◌∷◌, get_or, All, refl, sym, ap, ◌∙◌, arith}
use Rattle.std.proofs.lemmas.List.Kept.{AllPairs-cons}
use Rattle.dir_values.specs.Digests.{identity_below}
use Rattle.vote_terms.{specs.{Votes.ReadVote, Held.{votes_with, held, VotesAscend, HeldAscend}}, proofs.Orders.Below}
use Rattle.vote_terms.proofs.HeldLaw.{In, in_to, at_index, Ascends, ascends, stands}

-- a vote comes before another
abbrev Comes : ReadVote → ReadVote → Type 0
Comes v w = Below v.says.identity w.says.identity

all_behind : (w : ReadVote) (ws : List ReadVote) → ((x : ReadVote) → In x ws → Comes w x) → All (Comes w) ws
all_behind w ws h = λ i d lt. h (get_or ws i d) (at_index ws i d (get_or ws i d) lt refl)

pub to_pairs : (votes : List ReadVote) → Ascends votes → VotesAscend votes
to_pairs [] a = λ i j d lt within. absurd (omega (arith, within))
to_pairs (w ∷ ws) a = AllPairs-cons Comes w ws (all_behind w ws a.0) (to_pairs ws a.1)

pub first_comes_before_rest : (w : ReadVote) (ws : List ReadVote) → VotesAscend (w ∷ ws) → (x : ReadVote) → In x ws → Comes w x
first_comes_before_rest w ws a x i =
    let c = in_to ws x i in
    let comes : Comes w (get_or ws c.0 x) = a 0 (suc c.0) x (omega arith) (omega (arith, c.1)) in
    ap (λ (y : ReadVote). identity_below w.says.identity y.says.identity) (sym c.2) ∙ comes

pub rest_ascends : (w : ReadVote) (ws : List ReadVote) → VotesAscend (w ∷ ws) → VotesAscend ws
rest_ascends w ws a = λ i j d lt within. a (suc i) (suc j) d (omega (arith, lt)) (omega (arith, within))

pub from_pairs : (votes : List ReadVote) → VotesAscend votes → Ascends votes
from_pairs [] a = tt
from_pairs (w ∷ ws) a = (first_comes_before_rest w ws a, from_pairs ws (rest_ascends w ws a))

-- votes that ascend do so still with one more
pub placed_ascends : (votes : List ReadVote) (v : ReadVote) → VotesAscend votes → VotesAscend (votes_with votes v)
placed_ascends votes v a = to_pairs (votes_with votes v) (ascends votes v (from_pairs votes a))

pub held_ascend : HeldAscend
held_ascend list = to_pairs (held list) (stands list).apart
