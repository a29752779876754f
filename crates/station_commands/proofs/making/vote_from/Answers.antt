use Rattle.std.proofs.Common.{ℕ, Option, None, subst, arith}
use Rattle.key_port.specs.Answers.{rules as verifier_rules}
use Rattle.vote_maker.specs.Made.{basis, schedule_in}
use Rattle.vote_schedule.specs.{Moments.AnswersNext, Schedules.{IsSchedule, Schedule}}
use Rattle.station_commands.{specs.Voting.HasPool, proofs.{Faults.no_fault, Schedules.schedule_is}}
use Rattle.station_commands.proofs.{Stopping.{no_descriptors, no_period, out_of_order}, Voted.{at_moment, has_basis}}
use Rattle.station_commands.proofs.Voted.{in_order, unasked_of, unsigned_of, voted_at, within_moments}
use Rattle.station_commands.proofs.making.vote_from.Goals as goal

pub returns-in-Err-clause-answer : goal.returns-in-Err-clause-answer
returns-in-Err-clause-answer g c =
    rw c.of_order.ensures
    (out_of_order (verifier_rules g.V.Verifier.may_accept g.V.Verifier.may_refuse) g.N.Signer.may_give g.N.Signer.steps
    c.args.now c.args.station.now c.args.used c.args.bytes.now c.args.signer.now c.args.signer.now c.in-Err.why
    c.in-Err.ensures)

pub returns-in-Err-pool_of-clause-answer : goal.returns-in-Err-pool_of-clause-answer
returns-in-Err-pool_of-clause-answer g c =
    let order = in_order c.args.station.now c.in-Ok.schedule c.in-Ok.ensures in
    rw c.of_pool.ensures
    (no_descriptors (verifier_rules g.V.Verifier.may_accept g.V.Verifier.may_refuse) g.N.Signer.may_give
    g.N.Signer.steps c.args.now c.args.station.now c.args.used c.args.bytes.now c.args.signer.now c.args.signer.now
    c.in-Err-pool_of.why order c.in-Err-pool_of.ensures.gives)

pub returns-in_default-clause-answer : goal.returns-in_default-clause-answer
returns-in_default-clause-answer g c =
    let checks = verifier_rules g.V.Verifier.may_accept g.V.Verifier.may_refuse in
    let given = c.args.station.now in
    let schedule = c.in-Ok.schedule in
    let order = in_order given schedule c.in-Ok.ensures in
    let has : HasPool checks given c.args.used c.args.bytes.now c.in-Ok-pool_of.pool =
    record { order = order; pool_of = c.in-Ok-pool_of.ensures.gives } in
    let same = schedule_is given schedule c.in-Ok.ensures.scheduled in
    let none = subst (λ (next : Option ℕ). AnswersNext schedule 0 c.args.now next) c.in_default.is
    c.period_of.ensures.next in
    rw c.station_stop.ensures
    (no_period checks g.N.Signer.may_give g.N.Signer.steps c.args.now given c.args.used c.args.bytes.now
    c.args.signer.now c.args.signer.now c.in-Ok-pool_of.pool has
    (at_moment schedule (schedule_in given) c.args.now None same none))

pub vote_of-requires : goal.vote_of-requires
vote_of-requires g c =
    let given = c.args.station.now in
    let schedule = c.in-Ok.schedule in
    let same = schedule_is given schedule c.in-Ok.ensures.scheduled in
    record {
      schedule = subst (λ (s : Schedule). IsSchedule s) same c.period_of.ensures.schedule;
      moments = within_moments schedule (schedule_in given) c.args.now c.in-Some.valid_after same
          c.in-Some.ensures.next;
    }

pub returns-clause-answer : goal.returns-clause-answer
returns-clause-answer g c =
    let checks = verifier_rules g.V.Verifier.may_accept g.V.Verifier.may_refuse in
    let given = c.args.station.now in
    let schedule = c.in-Ok.schedule in
    let pool = c.in-Ok-pool_of.pool in
    let valid_after = c.in-Some.valid_after in
    let order = in_order given schedule c.in-Ok.ensures in
    let has : HasPool checks given c.args.used c.args.bytes.now pool =
    record { order = order; pool_of = c.in-Ok-pool_of.ensures.gives } in
    let same = schedule_is given schedule c.in-Ok.ensures.scheduled in
    voted_at checks g.N.Signer.may_give g.N.Signer.steps c.args.now given c.args.used c.args.bytes.now
    c.args.signer.now c.vote_of.new.signer (basis given pool.descriptors valid_after c.args.now) c.vote_of.result
    (has_basis checks given c.args.used c.args.bytes.now pool schedule c.args.now valid_after same has
    c.in-Some.ensures.next)
    c.vote_of.ensures.gives

pub returns-clause-verifier_fault : goal.returns-clause-verifier_fault
returns-clause-verifier_fault g c =
    let same = no_fault _ _ c.in-Ok-pool_of.ensures.faults c.in-Ok-pool_of.ensures.told in
    λ is. omega (arith, same, c.vote_of.ensures.verifier_fault is)

pub returns-clause-verifier_told : goal.returns-clause-verifier_told
returns-clause-verifier_told g c =
    let same = no_fault _ _ c.in-Ok-pool_of.ensures.faults c.in-Ok-pool_of.ensures.told in
    λ rose. c.vote_of.ensures.verifier_told (omega (arith, same, rose))

pub returns-clause-unasked : goal.returns-clause-unasked
returns-clause-unasked g c =
    unasked_of (verifier_rules g.V.Verifier.may_accept g.V.Verifier.may_refuse) g.N.Signer.may_give g.N.Signer.steps
    (basis c.args.station.now c.in-Ok-pool_of.pool.descriptors c.in-Some.valid_after c.args.now)
    c.args.signer.now c.vote_of.new.signer c.args.verifier.now c.vote_of.new.verifier c.vote_of.result
    c.vote_of.ensures.gives

pub returns-clause-unsigned : goal.returns-clause-unsigned
returns-clause-unsigned g c =
    unsigned_of (verifier_rules g.V.Verifier.may_accept g.V.Verifier.may_refuse) g.N.Signer.may_give g.N.Signer.steps
    (basis c.args.station.now c.in-Ok-pool_of.pool.descriptors c.in-Some.valid_after c.args.now)
    c.args.signer.now c.vote_of.new.signer c.vote_of.result c.vote_of.ensures.gives
