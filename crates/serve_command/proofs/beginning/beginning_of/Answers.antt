use Rattle.std.proofs.{Common.{◌≡◌, ℕ, Option, None, Err, ap, subst, arith}, lemmas.Result.err_from_is_err_and}
use Rattle.key_port.specs.Answers.{rules as verifier_rules}
use Rattle.daemon_words.specs.declared.stop.Stop.TheVariants.{Refused}
use Rattle.serve_command.{specs.declared.refusal.ServeRefusal.TheVariants.Verifier, proofs.Starts.can_begin}
use Rattle.serve_command.proofs.Stopping.{no_certificate, no_descriptors, no_period, out_of_order}
use Rattle.vote_schedule.specs.Moments.{AnswersNext}
use Rattle.vote_maker.specs.Made.{basis, schedule_in}
use Rattle.station_commands.{specs.Voting.HasPool, proofs.{Faults.no_fault, Schedules.schedule_is, Voted.at_moment}}
use Rattle.station_commands.proofs.Voted.{has_basis, in_order}
use Rattle.serve_command.proofs.beginning.beginning_of.Goals as goal

pub returns-in-Err-clause-stops : goal.returns-in-Err-clause-stops
returns-in-Err-clause-stops g c =
    rw c.of_order.ensures
    (out_of_order (verifier_rules g.V.Verifier.may_accept g.V.Verifier.may_refuse) c.args.now c.args.station.now
    c.args.used c.args.bytes.now c.in-Err.why c.in-Err.ensures)

pub returns-in-Err-pool_of-clause-stops : goal.returns-in-Err-pool_of-clause-stops
returns-in-Err-pool_of-clause-stops g c =
    let given = c.args.station.now in
    let order = in_order given c.in-Ok.schedule c.in-Ok.ensures in
    rw c.of_pool.ensures
    (no_descriptors (verifier_rules g.V.Verifier.may_accept g.V.Verifier.may_refuse) c.args.now given c.args.used
    c.args.bytes.now c.in-Err-pool_of.why order c.in-Err-pool_of.ensures.gives)

pub returns-in_default-clause-stops : goal.returns-in_default-clause-stops
returns-in_default-clause-stops g c =
    let checks = verifier_rules g.V.Verifier.may_accept g.V.Verifier.may_refuse in
    let given = c.args.station.now in
    let schedule = c.in-Ok.schedule in
    let has : HasPool checks given c.args.used c.args.bytes.now c.in-Ok-pool_of.pool =
    record {
      order = in_order given schedule c.in-Ok.ensures;
      pool_of = c.in-Ok-pool_of.ensures.gives;
    } in
    let same = schedule_is given schedule c.in-Ok.ensures.scheduled in
    let none = subst (λ (next : Option ℕ). AnswersNext schedule 0 c.args.now next) c.in_default.is
    c.period_of.ensures.next in
    rw c.station_stop.ensures
    (no_period checks c.args.now given c.args.used c.args.bytes.now c.in-Ok-pool_of.pool has
    (at_moment schedule (schedule_in given) c.args.now None same none))

pub returns-in_default-clause-told : goal.returns-in_default-clause-told
returns-in_default-clause-told g c =
    let same = no_fault _ _ c.in-Ok-pool_of.ensures.faults c.in-Ok-pool_of.ensures.told in
    λ rose. absurd (omega (arith, same, rose))

pub returns-in_err-check_own-clause-stops : goal.returns-in_err-check_own-clause-stops
returns-in_err-check_own-clause-stops g c =
    let checks = verifier_rules g.V.Verifier.may_accept g.V.Verifier.may_refuse in
    let given = c.args.station.now in
    let schedule = c.in-Ok.schedule in
    let pool = c.in-Ok-pool_of.pool in
    let valid_after = c.in-Some.valid_after in
    let has : HasPool checks given c.args.used c.args.bytes.now pool =
    record {
      order = in_order given schedule c.in-Ok.ensures;
      pool_of = c.in-Ok-pool_of.ensures.gives;
    } in
    let same = schedule_is given schedule c.in-Ok.ensures.scheduled in
    let p = err_from_is_err_and c.from_residual.result c.from_residual.ensures.1 in
    rw (p.1, p.2)
    (no_certificate checks c.args.now given c.args.used c.args.bytes.now
    (basis given pool.descriptors valid_after c.args.now) c.in_err-check_own.field-0.0
    (has_basis checks given c.args.used c.args.bytes.now pool schedule c.args.now valid_after same has
    c.in-Some.ensures.next)
    c.in_err-check_own.ensures.stops)

pub returns-in_err-check_own-clause-fault : goal.returns-in_err-check_own-clause-fault
returns-in_err-check_own-clause-fault g c =
    let same = no_fault _ _ c.in-Ok-pool_of.ensures.faults c.in-Ok-pool_of.ensures.told in
    let p = err_from_is_err_and c.from_residual.result c.from_residual.ensures.1 in
    rw (p.1, p.2) (λ is.
    let why : c.in_err-check_own.field-0.0 ≡ Refused Verifier = cc is in
    omega (arith, same, c.in_err-check_own.ensures.fault (ap (λ w. Err w) why)))

pub returns-in_err-check_own-clause-told : goal.returns-in_err-check_own-clause-told
returns-in_err-check_own-clause-told g c =
    let same = no_fault _ _ c.in-Ok-pool_of.ensures.faults c.in-Ok-pool_of.ensures.told in
    let p = err_from_is_err_and c.from_residual.result c.from_residual.ensures.1 in
    rw (p.1, p.2) (λ rose.
    let why : c.in_err-check_own.field-0.0 ≡ Refused Verifier =
    cc (c.in_err-check_own.ensures.told (omega (arith, same, rose))) in
    ap (λ w. Err w) why)

pub returns-clause-begins : goal.returns-clause-begins
returns-clause-begins g c =
    let checks = verifier_rules g.V.Verifier.may_accept g.V.Verifier.may_refuse in
    let given = c.args.station.now in
    let schedule = c.in-Ok.schedule in
    let pool = c.in-Ok-pool_of.pool in
    let valid_after = c.in-Some.valid_after in
    let has : HasPool checks given c.args.used c.args.bytes.now pool =
    record {
      order = in_order given schedule c.in-Ok.ensures;
      pool_of = c.in-Ok-pool_of.ensures.gives;
    } in
    can_begin checks c.args.now given c.args.used c.args.bytes.now schedule pool valid_after has
    (schedule_is given schedule c.in-Ok.ensures.scheduled) c.period_of.ensures.schedule
    c.in-Some.ensures.next c.in_ok-check_own.ensures.holds

pub returns-clause-told : goal.returns-clause-told
returns-clause-told g c =
    let same = no_fault _ _ c.in-Ok-pool_of.ensures.faults c.in-Ok-pool_of.ensures.told in
    let own = no_fault _ _ c.in_ok-check_own.ensures.faults c.in_ok-check_own.ensures.told in
    λ rose. absurd (omega (arith, same, own, rose))
