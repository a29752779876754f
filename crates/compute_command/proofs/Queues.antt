-- Votes taken off the front of a list.
use Rattle.std.proofs.Common.{◌≡◌, ℕ, ◌+◌, ◌<◌, List, length, get_or, take, drop, ap, sym, ◌∙◌, subst, arith}
use Rattle.std.proofs.{Common.{length-drop, add-zero}, lemmas.List.{drop-drop, get_or-drop, Elements.All-more}}
use Rattle.std.{proofs.lemmas.List.Sums.fold_more, specs.{Prelude.All, List.remove}}
use Rattle.vote_terms.specs.{Votes.ReadVote, Held.{held, votes_with}}

pub within : (all left : List ReadVote) (n : ℕ) → left ≡ drop n all → 0 < length left → n < length all
within all left n e some = let e' : length left ≡ length (drop n all) = ap (λ (l : List ReadVote). length l) e in omega (arith, length-drop n all, e')

pub first : (all left : List ReadVote) (n : ℕ) (vote : ReadVote) → left ≡ drop n all → vote ≡ get_or left 0 vote → vote ≡ get_or all n vote
first all left n vote e is = is ∙ ap (λ (l : List ReadVote). get_or l 0 vote) e ∙ get_or-drop n all 0 vote ∙ ap (λ m. get_or all m vote) (add-zero n)

pub others : (all left new : List ReadVote) (n : ℕ) → left ≡ drop n all → new ≡ remove left 0 → new ≡ drop (n + 1) all
others all left new n e is = is ∙ ap (λ (l : List ReadVote). drop 1 l) e ∙ drop-drop 1 n all

pub all_with_one_more_vote : (P : ReadVote → Type 0) (all : List ReadVote) (n : ℕ) (vote : ReadVote) → n < length all → vote ≡ get_or all n vote → All P (take n all) → P vote → All P (take (n + 1) all)
all_with_one_more_vote P all n vote lt is before this = All-more P all n vote lt before (subst P is this)

pub one_more_held : (all : List ReadVote) (n : ℕ) (vote : ReadVote) (now new : List ReadVote) → n < length all → vote ≡ get_or all n vote → now ≡ held (take n all) → new ≡ votes_with now vote → new ≡ held (take (n + 1) all)
one_more_held all n vote now new lt is e e' = e' ∙ ap (λ (l : List ReadVote). votes_with l vote) e ∙ ap (λ v. votes_with (held (take n all)) v) is ∙ sym (fold_more votes_with _ all n vote lt)
