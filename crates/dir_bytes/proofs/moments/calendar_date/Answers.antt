use Rattle.std.proofs.{Common.{arith, w64, ◌∙◌}, lemmas.Int.to_z_pos}
use Rattle.dir_bytes.proofs.Days.{date_of_is, date_of_only}
use Rattle.dir_bytes.proofs.moments.calendar_date.Goals as goal

pub returns-clause-month : goal.returns-clause-month
returns-clause-month c =
    (date_of_only c.in-Ok.date c.args.day c.requires (c.in-Ok.ensures.value ∙ to_z_pos w64 c.args.day (omega (arith, c.requires)))).1

pub returns-clause-day : goal.returns-clause-day
returns-clause-day c =
    (date_of_only c.in-Ok.date c.args.day c.requires (c.in-Ok.ensures.value ∙ to_z_pos w64 c.args.day (omega (arith, c.requires)))).2

pub returns-clause-late : goal.returns-clause-late
returns-clause-late c = (date_of_is c.args.day c.requires).late
