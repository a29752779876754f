use Rattle.std.proofs.Common.{arith, ◌≡◌, ◌++◌, ◌∷◌, [], ℕ, List, length, take, ap, ◌∙◌, subst}
use Rattle.std.proofs.lemmas.List.{replicate_more, length-replicate, take_all, Elements.All-more}
use Rattle.vote_terms.specs.{Votes.ReadVote, Entries.Ascending}
use Rattle.relay_select.{specs.Cursors.{cursors, groups_left, AllAscend}, proofs.Groups.all_left}
use Rattle.relay_select.proofs.merge.Merge.new.Goals as goal

pub votes-preserved : goal.votes-preserved
votes-preserved c =
    let votes = c.args.votes.now.votes in
    record {
      places = c.in_ok-push.ensures.items ∙ ap (λ (l : List ℕ). l ++ 0 ∷ []) c.votes.invariant.places ∙ replicate_more c.votes.i 0;
      ascend = All-more (λ (v : ReadVote). Ascending v.says.entries) votes c.votes.i c.vote.result.now (omega arith) c.votes.invariant.ascend
          (subst (λ (v : ReadVote). Ascending v.says.entries) (c.vote-in-votes.ensures ∙ c.vote.ensures) c.len-entries.ensures.ascending);
    }

pub invariant_of-result : goal.invariant_of-result
invariant_of-result c =
    let votes = c.args.votes.now.votes in
    let same : c.votes.i ≡ length votes = omega arith in
    let long : length c.votes.places.items ≡ c.votes.i = ap (λ (l : List ℕ). length l) c.votes.invariant.places ∙ length-replicate c.votes.i 0 in
    let whole : take c.votes.i votes ≡ votes = take_all c.votes.i votes (omega arith) in
    (long ∙ same, subst AllAscend whole c.votes.invariant.ascend)

pub returns : goal.returns
returns c =
    let votes = c.args.votes.now.votes in
    ap (λ (places : List ℕ). record { votes = length votes; left = groups_left (cursors votes places) }) c.votes.invariant.places
    ∙ ap (λ left. record { votes = length votes; left = left }) (all_left votes c.votes.i (omega arith))
