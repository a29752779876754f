use Rattle.std.proofs.{Common.{arith, rules, ap, ◌∙◌, List}, lemmas.Result.err_from_is_err_and}
use Rattle.flag_rules.specs.{Rules.ruling_for, declared.operator.OperatorRule.OperatorRule}
use Rattle.key_port.specs.Answers.{rules as verifier_rules}
use Rattle.station_commands.proofs.Faults.{no_fault}
use Rattle.serve_command.proofs.Starts.{is_opened, period_ahead}
use Rattle.serve_command.proofs.ready.open_board.Goals as goal

pub start-requires : goal.start-requires
start-requires g c =
    let begun = c.in_ok-schedule.ensures.begins in
    record {
      order = begun.can.basis.has_pool.order;
      schedule = begun.schedule_is;
      period =
          period_ahead (verifier_rules g.V.Verifier.may_accept g.V.Verifier.may_refuse) c.args.now
          c.args.station.now c.args.used c.args.bytes.now c.in_ok-schedule.schedule c.in_ok-schedule.pool begun;
    }

pub returns-in_err-operator-clause-stops : goal.returns-in_err-operator-clause-stops
returns-in_err-operator-clause-stops g c =
    let p = err_from_is_err_and c.from_residual-in_err-operator.result c.from_residual-in_err-operator.ensures.1 in
    rw (p.1, p.2) tt

pub returns-in_err-started-clause-stops : goal.returns-in_err-started-clause-stops
returns-in_err-started-clause-stops g c =
    let p = err_from_is_err_and c.from_residual-in_err-started.result c.from_residual-in_err-started.ensures.1 in
    rw (p.1, p.2) tt

pub returns-in_err-started-clause-told : goal.returns-in_err-started-clause-told
returns-in_err-started-clause-told g c =
    let same = no_fault _ _ c.in_ok-schedule.ensures.faults c.in_ok-schedule.ensures.told in
    λ rose. absurd (omega (arith, same, rose))

pub returns-in_err-board-clause-stops : goal.returns-in_err-board-clause-stops
returns-in_err-board-clause-stops g c =
    let p = err_from_is_err_and c.from_residual-in_err-board.result c.from_residual-in_err-board.ensures.1 in
    rw (p.1, p.2) tt

pub returns-in_err-board-clause-told : goal.returns-in_err-board-clause-told
returns-in_err-board-clause-told g c =
    let same = no_fault _ _ c.in_ok-schedule.ensures.faults c.in_ok-schedule.ensures.told in
    λ rose. absurd (omega (arith, same, rose))

pub returns-clause-told : goal.returns-clause-told
returns-clause-told g c =
    let same = no_fault _ _ c.in_ok-schedule.ensures.faults c.in_ok-schedule.ensures.told in
    λ rose. absurd (omega (arith, same, rose))

pub returns-clause-opened : goal.returns-clause-opened
returns-clause-opened g c =
    is_opened (verifier_rules g.V.Verifier.may_accept g.V.Verifier.may_refuse) c.args.now c.args.bytes.now
    c.args.workers c.args.station.now c.args.used c.in_ok-schedule.schedule c.in_ok-started.started
    c.in_ok-schedule.pool _ c.in_ok-board.board c.in_ok-board.passes.items c.in_ok-schedule.ensures.begins
    c.in_ok-started.ensures.started c.in_ok-started.ensures.start
    (λ identity. c.in_ok-operator.ensures identity
    ∙ ap (λ (l : List OperatorRule). ruling_for l identity) (search rules)) c.in_ok-board.ensures.start
    c.in_ok-board.ensures.passes c.in_ok-board.ensures.new c.in_ok-board.ensures.at
