use Rattle.period_core.proofs.Judgements.{refused_answer, refused_state, new_answer, new_state, better_answer}
use Rattle.period_core.proofs.Judgements.{better_state, new_holds, better_holds}
use Rattle.period_core.proofs.state.PeriodState.offer.Goals as goal

pub returns-in-Refused-clause-answer : goal.returns-in-Refused-clause-answer
returns-in-Refused-clause-answer g c = refused_answer _ _ _ _ _ _ _ c.into_held-held.ensures.vote c.judge.ensures c.in-Refused.is

pub returns-in-Refused-clause-state : goal.returns-in-Refused-clause-state
returns-in-Refused-clause-state g c = refused_state _ _ _ _ _ _ _ c.into_held-held.ensures.vote c.judge.ensures c.in-Refused.is

pub returns-in-New-clause-answer : goal.returns-in-New-clause-answer
returns-in-New-clause-answer g c = new_answer _ _ _ _ _ _ _ _ _ c.into_held-held.ensures.vote c.judge.ensures c.in-New.is
    c.into_held-held.ensures.vote c.keep.ensures c.front.ensures

pub returns-in-New-clause-state : goal.returns-in-New-clause-state
returns-in-New-clause-state g c = new_state _ _ _ _ _ _ _ _ c.into_held-held.ensures.vote c.judge.ensures c.in-New.is
    c.into_held-held.ensures.vote c.keep.ensures

pub returns-in-Better-clause-answer : goal.returns-in-Better-clause-answer
returns-in-Better-clause-answer g c = better_answer _ _ _ _ _ _ _ _ _ _ c.into_held-held.ensures.vote c.judge.ensures
    c.in-Better.is c.into_held-held.ensures.vote c.keep-in-Better.ensures c.front-in-Better.ensures

pub returns-in-Better-clause-state : goal.returns-in-Better-clause-state
returns-in-Better-clause-state g c = better_state _ _ _ _ _ _ _ _ _ c.into_held-held.ensures.vote c.judge.ensures c.in-Better.is
    c.into_held-held.ensures.vote c.keep-in-Better.ensures

pub keep-requires-clause-some : goal.keep-requires-clause-some
keep-requires-clause-some g c = (new_holds c.args.self.now c.into_held-held.result c.args.via c.args.now c.judge.result
    c.judge.ensures c.in-New.is).some

pub keep-requires-clause-beats : goal.keep-requires-clause-beats
keep-requires-clause-beats g c = (new_holds c.args.self.now c.into_held-held.result c.args.via c.args.now c.judge.result
    c.judge.ensures c.in-New.is).beats

pub keep-requires-in-Better-clause-some : goal.keep-requires-in-Better-clause-some
keep-requires-in-Better-clause-some g c = (better_holds c.args.self.now c.into_held-held.result c.args.via c.args.now
    c.judge.result _ c.judge.ensures c.in-Better.is).some

pub keep-requires-in-Better-clause-beats : goal.keep-requires-in-Better-clause-beats
keep-requires-in-Better-clause-beats g c = (better_holds c.args.self.now c.into_held-held.result c.args.via c.args.now
    c.judge.result _ c.judge.ensures c.in-Better.is).beats
