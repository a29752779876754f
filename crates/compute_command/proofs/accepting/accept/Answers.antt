use Rattle.std.proofs.Common.{◌≡◌, ◌<◌, ◌∙◌, List, length, get_or, ap, sym, subst, arith}
use Rattle.key_port.specs.Answers.{rules}
use Rattle.vote_terms.specs.{Votes.ReadVote, Held.votes_with, Acceptable.IsAcceptable}
use Rattle.vote_doc.specs.Holdings.{Holding}
use Rattle.vote_doc.proofs.Placing as placing
use Rattle.compute_command.proofs.Queues.{within, first, others, all_with_one_more_vote, one_more_held}
use Rattle.compute_command.proofs.{VoteAsking.{accepted_more, refused_at}, Faults.no_fault, Refusing.stops_at}
use Rattle.compute_command.specs.{Accepting.StopsAt, declared.refusal.AcceptRefusal.AcceptRefusal}
use Rattle.daemon_words.specs.declared.stop.Stop.TheVariants as stop
use Rattle.compute_command.proofs.accepting.accept.Goals as goal

pub returns-in-Err-clause-accepts : goal.returns-in-Err-clause-accepts
returns-in-Err-clause-accepts g c =
    let all = c.args.votes.items in
    let left = c.votes.votes.items in
    let n = c.votes.before in
    let vote = c.remove-vote.result in
    let rules = rules g.V.Verifier.may_accept g.V.Verifier.may_refuse in
    subst (λ (why : AcceptRefusal). StopsAt rules c.args.wanted.now all (stop.Refused why)) (sym c.refused.ensures)
    (stops_at rules c.args.wanted.now all n vote c.in-Err.refusal (within all left n c.votes.invariant.rest (omega arith))
    (first all left n vote c.votes.invariant.rest c.remove-vote.ensures.value) c.votes.invariant.acceptable c.in-Err.ensures.refused)

pub votes-preserved : goal.votes-preserved
votes-preserved g c =
    let all = c.args.votes.items in
    let left = c.votes.votes.items in
    let n = c.votes.before in
    let vote = c.remove-vote.result in
    let now = c.votes.accepted.votes in
    let rules = rules g.V.Verifier.may_accept g.V.Verifier.may_refuse in
    let lt : n < length all = within all left n c.votes.invariant.rest (omega arith) in
    let is : vote ≡ get_or all n vote = first all left n vote c.votes.invariant.rest c.remove-vote.ensures.value in
    let held : c.into_held.result ≡ vote = c.into_held.ensures.vote ∙ c.in-Ok.ensures.accepted.0 in
    let after : c.place.new.self.votes ≡ votes_with now vote = ap (λ (h : Holding). h.votes) c.place.ensures.votes ∙ ap (λ (v : ReadVote). votes_with now v) held in
    record {
      within = omega arith;
      rest = others all left c.remove-vote.new.self.items n c.votes.invariant.rest c.remove-vote.ensures.items;
      acceptable = all_with_one_more_vote (λ v. IsAcceptable rules c.args.wanted.now.roster c.args.wanted.now.valid_after v) all n vote lt is c.votes.invariant.acceptable c.in-Ok.ensures.accepted.1;
      held_is = one_more_held all n vote now c.place.new.self.votes lt is c.votes.invariant.held_is after;
      room = ap (λ (h : Holding). h.room) c.place.ensures.votes ∙ c.votes.invariant.room;
      few = omega (arith, ap (λ (l : List ReadVote). length l) after, placing.placed_adds_at_most_one now vote, c.votes.invariant.few);
      asked = accepted_more g.V.Verifier.steps all n vote c.args.verifier.now c.votes.verifier c.check_vote.new.verifier lt
          is c.votes.invariant.asked c.in-Ok.ensures.asked;
      faults = no_fault _ _ c.in-Ok.ensures.faults c.in-Ok.ensures.told ∙ c.votes.invariant.faults;
    }

pub returns-in-Err-clause-asked : goal.returns-in-Err-clause-asked
returns-in-Err-clause-asked g c =
    let all = c.args.votes.items in
    let left = c.votes.votes.items in
    let n = c.votes.before in
    let vote = c.remove-vote.result in
    refused_at g.V.Verifier.steps all n vote c.in-Err.refusal c.refused.result c.args.verifier.now c.votes.verifier
    c.check_vote.new.verifier (within all left n c.votes.invariant.rest (omega arith))
    (first all left n vote c.votes.invariant.rest c.remove-vote.ensures.value) c.refused.ensures c.votes.invariant.asked
    c.in-Err.ensures.refused_asked
