use Rattle.std.proofs.Common.{arith, sym}
use Rattle.dir_bytes.proofs.Calendars.{day_of-cast}
use Rattle.dir_bytes.proofs.moments.day_of.Goals as goal

pub overflow_cast-result : goal.overflow_cast-result
overflow_cast-result c =
    let facts = day_of-cast c.args.year c.args.month c.args.day c.in-Ok.date c.to_unix_epoch_day.result c.if-year-lt1970.false (omega arith, omega arith, omega arith) c.in-Ok.ensures.value c.to_unix_epoch_day.ensures.value in
    rw facts.1 (tt, omega (arith, facts.2))

pub returns-in-Ok-clause-within : goal.returns-in-Ok-clause-within
returns-in-Ok-clause-within c =
    let facts = day_of-cast c.args.year c.args.month c.args.day c.in-Ok.date c.to_unix_epoch_day.result c.if-year-lt1970.false (omega arith, omega arith, omega arith) c.in-Ok.ensures.value c.to_unix_epoch_day.ensures.value in
    rw facts.1 facts.2

pub returns-in-Ok-clause-value : goal.returns-in-Ok-clause-value
returns-in-Ok-clause-value c =
    let facts = day_of-cast c.args.year c.args.month c.args.day c.in-Ok.date c.to_unix_epoch_day.result c.if-year-lt1970.false (omega arith, omega arith, omega arith) c.in-Ok.ensures.value c.to_unix_epoch_day.ensures.value in
    sym facts.0
