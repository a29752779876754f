-- The keys of votes.
use Rattle.std.proofs.Common.{◌≡◌, ℕ, ◌+◌, ◌<◌, List, [], ◌∷◌, ◌++◌, length, get_or, take, map, true, sym, ap, ◌∙◌}
use Rattle.std.proofs.{Common.arith, lemmas.List.{get_or-map, length-map, Elements.{All-nil, All-cons, All-head}}}
use Rattle.std.{proofs.lemmas.List.Elements.All-tail, specs.Prelude.{All, AllPairs}}
use Rattle.dir_values.proofs.Orders.{apart, AllPairs-cons, AllPairs-head, AllPairs-tail, AllPairs-nil}
use Rattle.dir_values.specs.Digests.{identity_below}
use Rattle.vote_terms.specs.{Held.VotesAscend, Votes.ReadVote}
use Rattle.detached_sigs.{specs.{declared.key.SignerKey.SignerKey, Signers.AreApart}, proofs.Asking.taken}
use Rattle.health_report.specs.Signers.{key_of}

-- the key of a vote is that at its place
key_at : (votes : List ReadVote) (i : ℕ) (vote : ReadVote) (key : SignerKey) → i < length votes
    → vote ≡ get_or votes i vote → key ≡ key_of vote → key ≡ get_or (map key_of votes) i key
key_at votes i vote key lt is of = of ∙ ap key_of is ∙ sym (get_or-map key_of votes i vote key lt)

-- the keys of the votes so far, and that of the next one
pub one_more_vote_key : (votes : List ReadVote) (i : ℕ) (vote : ReadVote) (key : SignerKey) (keys new : List SignerKey)
    → i < length votes → vote ≡ get_or votes i vote → key ≡ key_of vote → keys ≡ take i (map key_of votes)
    → new ≡ keys ++ key ∷ [] → new ≡ take (i + 1) (map key_of votes)
one_more_vote_key votes i vote key keys new lt is of so_far new_is =
    new_is ∙ ap (λ (l : List SignerKey). l ++ key ∷ []) so_far
    ∙ sym (taken (map key_of votes) i key (omega (arith, lt, length-map votes key_of)) (key_at votes i vote key lt is of))

abbrev above : ReadVote → ReadVote → Type 0
above earlier later = identity_below earlier.says.identity later.says.identity ≡ true

apart_ahead : (vote : ReadVote) (votes : List ReadVote) → All (above vote) votes
    → All (AreApart (key_of vote)) (map key_of votes)
apart_ahead vote [] up = All-nil (AreApart (key_of vote))
apart_ahead vote (next ∷ votes) up =
    All-cons (AreApart (key_of vote)) (key_of next) (map key_of votes)
    (apart vote.says.identity.0 next.says.identity.0 (All-head (above vote) next votes up))
    (apart_ahead vote votes (All-tail (above vote) next votes up))

-- the keys of votes that ascend are of authorities that differ
pub keys_apart : (votes : List ReadVote) → VotesAscend votes → AllPairs AreApart (map key_of votes)
keys_apart [] up = AllPairs-nil AreApart
keys_apart (vote ∷ votes) up =
    AllPairs-cons AreApart (key_of vote) (map key_of votes) (apart_ahead vote votes (AllPairs-head above vote votes up))
    (keys_apart votes (AllPairs-tail above vote votes up))
