use Rattle.period_core.proofs.Weighings.{fits_member, fits_size, refused_answer, refused_state, fits_answer, fits_state}
use Rattle.period_core.proofs.state.PeriodState.sign_in.Goals as goal

pub hold-requires-clause-member : goal.hold-requires-clause-member
hold-requires-clause-member g c = fits_member c.args.self.now c.args.sig c.weigh.result c.weigh.ensures c.in-Fits.is
    c.know_members.ensures

pub returns-in-Refused-clause-answer : goal.returns-in-Refused-clause-answer
returns-in-Refused-clause-answer g c = refused_answer _ _ _ _ c.weigh.ensures c.in-Refused.is

pub returns-in-Refused-clause-state : goal.returns-in-Refused-clause-state
returns-in-Refused-clause-state g c = refused_state _ _ _ _ c.weigh.ensures c.in-Refused.is

pub returns-in-Fits-clause-answer : goal.returns-in-Fits-clause-answer
returns-in-Fits-clause-answer g c = fits_answer _ _ _ _ _ c.weigh.ensures c.in-Fits.is c.hold.ensures.state
    c.front.ensures c.hold.ensures.front

pub returns-in-Fits-clause-state : goal.returns-in-Fits-clause-state
returns-in-Fits-clause-state g c = fits_state _ _ _ _ c.weigh.ensures c.in-Fits.is c.hold.ensures.state

pub hold-requires-clause-size : goal.hold-requires-clause-size
hold-requires-clause-size g c = fits_size c.args.self.now c.args.sig c.weigh.result c.weigh.ensures c.in-Fits.is
