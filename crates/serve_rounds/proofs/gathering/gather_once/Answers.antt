use Rattle.std.proofs.Common.{List, None, [], subst, sym}
use Rattle.vote_schedule.specs.declared.phase.Phase.TheVariants as phases
use Rattle.serve_rounds.specs.{Exchanges.{AsksSome, Whatever}, Plans.{GetSignatures, Planned, peers_of, plan_of_phase}}
use Rattle.serve_rounds.{specs.Plans.to_each, proofs.{AskedOfPlans.asks_none, RoundMarks.{gathered_already, if_false}}}
use Rattle.serve_rounds.proofs.gathering.gather_once.Goals as goal

pub returns-then-round-clause-asks : goal.returns-then-round-clause-asks
returns-then-round-clause-asks g c =
    asks_none g.L.Link.steps Whatever
    (plan_of_phase c.args.given.now.station.now None phases.FetchingSignatures c.args.round.now)
    c.args.lent.now.link.now

pub returns-then-round-clause-marks : goal.returns-then-round-clause-marks
returns-then-round-clause-marks g c = gathered_already None c.args.round.now c.if-round.true

pub returns-clause-asks : goal.returns-clause-asks
returns-clause-asks g c =
    subst (λ (p : List Planned). AsksSome g.L.Link.steps Whatever p c.args.lent.now.link.now
    c.gather_all.new.lent.link.now)
    (sym (if_false c.args.round.now.gathered [] (to_each (peers_of c.args.given.now.station.now) GetSignatures)
    c.if-round.false)) c.gather_all.ensures.asks
