use Rattle.std.proofs.Common.{List, None, [], subst, sym}
use Rattle.key_port.specs.Answers as keys
use Rattle.vote_schedule.specs.declared.phase.Phase.TheVariants as phases
use Rattle.serve_rounds.specs.{Exchanges.{AsksSome, IsDue}, Plans.{Planned, all_votes, plan_of_phase}}
use Rattle.serve_rounds.proofs.{AskedOfPlans.asks_none, RoundMarks.{fetched_already, if_false}}
use Rattle.serve_rounds.proofs.fetching.fetch_once.Goals as goal

pub returns-then-round-clause-asks : goal.returns-then-round-clause-asks
returns-then-round-clause-asks g c =
    let given = c.args.given.now in
    let lent = c.args.lent.now in
    asks_none g.L.Link.steps
    (IsDue (keys.rules g.V.Verifier.may_accept g.V.Verifier.may_refuse) given.board.now lent.pass.now
    lent.pass.now)
    (plan_of_phase given.station.now None phases.Fetching c.args.round.now) lent.link.now

pub returns-then-round-clause-marks : goal.returns-then-round-clause-marks
returns-then-round-clause-marks g c = fetched_already None c.args.round.now c.if-round.true

pub returns-clause-asks : goal.returns-clause-asks
returns-clause-asks g c =
    let given = c.args.given.now in
    let lent = c.args.lent.now in
    let its = keys.rules g.V.Verifier.may_accept g.V.Verifier.may_refuse in
    subst (λ (p : List Planned). AsksSome g.L.Link.steps
    (IsDue its given.board.now lent.pass.now c.fetch_all.new.lent.pass.now) p lent.link.now
    c.fetch_all.new.lent.link.now)
    (sym (if_false c.args.round.now.fetched [] (all_votes given.station.now) c.if-round.false))
    c.fetch_all.ensures.asks
