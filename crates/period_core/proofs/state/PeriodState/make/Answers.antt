use Rattle.period_core.proofs.Rounding.{made_comes}
use Rattle.period_core.proofs.state.PeriodState.make.Goals as goal

pub returns-in_ok-made-in-Ok-clause-step : goal.returns-in_ok-made-in-Ok-clause-step
returns-in_ok-made-in-Ok-clause-step g c = made_comes c.args.self.now c.hold_made.new.self c.in-Ok.consensus
    c.in_ok-made-in-Ok.made c.in-Ok.ensures.calculates c.in_ok-made-in-Ok.ensures c.hold_made.ensures
