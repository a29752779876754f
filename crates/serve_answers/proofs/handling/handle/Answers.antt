use Rattle.std.proofs.Common.{ℕ, List, subst, sym}
use Rattle.key_port.specs.Answers.{Rules, rules}
use Rattle.http_words.specs.declared.{asked.Asked.Asked, outcome.Outcome.TheVariants.Replied}
use Rattle.lone_vote.specs.Alone.{IsFound, IsVote}
use Rattle.serve_answers.{specs.Handling.{Counted, Does}, proofs.{Caused.vote_caused, GoneOn.descriptor_goes}}
use Rattle.serve_answers.proofs.GoneOn.{vote_goes}
use Rattle.serve_answers.proofs.handling.handle.Goals as goal

pub returns-in_ok-found-in-PostVote-clause-does : goal.returns-in_ok-found-in-PostVote-clause-does
returns-in_ok-found-in-PostVote-clause-does g c =
    let rules : Rules = rules g.V.Verifier.may_accept g.V.Verifier.may_refuse in
    let counted : Counted = record {
      asks = g.C.Clock.asks c.args.clock.now;
      asks_then = g.C.Clock.asks c.take_vote.new.clock;
      last = g.C.Clock.last c.take_vote.new.clock;
      faults = g.V.Verifier.faults c.args.verifier.now;
      faults_then = g.V.Verifier.faults c.take_vote.new.verifier;
    } in
    let found = c.in_ok-found-in-PostVote.found in
    subst (λ (what : Asked). Does rules g.V.Verifier.steps c.args.board.now c.args.pass.now c.take_vote.new.pass counted
    c.args.verifier.now c.take_vote.new.verifier (g.W.Rules.allows c.args.hook.now.rules) what c.args.path.now
    c.args.body.now (Replied c.take_vote.result)) (sym c.in-PostVote.is)
    (c.take_vote.ensures.takes c.args.body.now
    (subst (λ (bytes : List ℕ). IsFound (IsVote bytes) found) c.deref.ensures c.in_ok-found-in-PostVote.ensures))

pub returns-in_ok-found-in-PostVote-clause-caused : goal.returns-in_ok-found-in-PostVote-clause-caused
returns-in_ok-found-in-PostVote-clause-caused g c =
    let rules : Rules = rules g.V.Verifier.may_accept g.V.Verifier.may_refuse in
    vote_caused (g.V.Verifier.faults c.args.verifier.now) (g.V.Verifier.faults c.take_vote.new.verifier) rules
    c.args.board.now c.args.pass.now c.take_vote.new.pass (g.C.Clock.asks c.args.clock.now)
    (g.C.Clock.asks c.take_vote.new.clock) (g.C.Clock.last c.take_vote.new.clock) c.deref.result.now c.take_vote.result
    (c.take_vote.ensures.takes c.deref.result.now c.in_ok-found-in-PostVote.ensures)

pub returns-in_ok-found-in-PostVote-clause-goes : goal.returns-in_ok-found-in-PostVote-clause-goes
returns-in_ok-found-in-PostVote-clause-goes g c =
    let rules : Rules = rules g.V.Verifier.may_accept g.V.Verifier.may_refuse in
    vote_goes rules c.args.board.now c.args.pass.now c.take_vote.new.pass (g.V.Verifier.faults c.args.verifier.now)
    (g.V.Verifier.faults c.take_vote.new.verifier) c.deref.result.now c.take_vote.result
    (g.C.Clock.asks c.args.clock.now) (g.C.Clock.asks c.take_vote.new.clock) (g.C.Clock.last c.take_vote.new.clock)
    (c.take_vote.ensures.takes c.deref.result.now c.in_ok-found-in-PostVote.ensures)

pub returns-in_ok-take_descriptor-in-PostDescriptor-clause-goes :
    goal.returns-in_ok-take_descriptor-in-PostDescriptor-clause-goes
returns-in_ok-take_descriptor-in-PostDescriptor-clause-goes g c =
    let rules : Rules = rules g.V.Verifier.may_accept g.V.Verifier.may_refuse in
    descriptor_goes rules c.args.board.now c.args.pass.now c.take_descriptor.new.pass
    (g.V.Verifier.faults c.args.verifier.now) (g.V.Verifier.faults c.take_descriptor.new.verifier) c.args.body.now _
    (g.W.Rules.allows c.args.hook.now.rules) c.in_ok-take_descriptor-in-PostDescriptor.ensures.takes
