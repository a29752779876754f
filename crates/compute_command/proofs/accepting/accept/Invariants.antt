use Rattle.std.{proofs.Common.{◌≡◌, ◌≤◌, take, drop, length, vec_len}, specs.Prelude.All}
use Rattle.key_port.specs.Answers.{rules}
use Rattle.vote_terms.specs.{Held.held, Acceptable.IsAcceptable}
use Rattle.compute_command.specs.Asked.{AsksAccepted}
use Rattle.compute_command.proofs.accepting.accept.Given as goal

abbrev pub invariant-votes : goal.invariant-votes
invariant-votes g l = record {
  within : l.before ≤ length l.fn.votes.items;
  rest : l.votes.items ≡ drop l.before l.fn.votes.items;
  acceptable : All (λ vote. IsAcceptable (rules g.V.Verifier.may_accept g.V.Verifier.may_refuse) l.wanted.roster l.wanted.valid_after vote) (take l.before l.fn.votes.items);
  held_is : l.accepted.votes ≡ held (take l.before l.fn.votes.items);
  room : l.accepted.room ≡ length l.fn.votes.items;
  few : length l.accepted.votes ≤ l.before;
  asked : AsksAccepted g.V.Verifier.steps (take l.before l.fn.votes.items) l.fn.verifier l.verifier;
  faults : g.V.Verifier.faults l.verifier ≡ g.V.Verifier.faults l.fn.verifier;
}

abbrev pub decreases-votes : goal.decreases-votes
decreases-votes g l = vec_len l.votes
