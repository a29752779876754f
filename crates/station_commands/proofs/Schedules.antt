-- The schedule that three numbers are.
use Rattle.std.{proofs.Common.{◌≡◌, Bool, true, false, Result, Ok, Err}, specs.Prelude.{◌==◌, ◌+◌, ◌*◌, ◌%◌, nat_lt}}
use Rattle.std.specs.Prelude.{nat_le, not, ◌||◌, if◌then◌else◌}
use Rattle.station_input.specs.declared.facts.StationFacts.{StationFacts}
use Rattle.vote_schedule.specs.{Schedules.{Schedule, day}, declared.config.ScheduleFault.ScheduleFault}
use Rattle.vote_schedule.specs.declared.config.ScheduleFault.TheVariants.{Interval, ShortDelay, LongDelays, ShortLife}
use Rattle.vote_maker.specs.Made.{schedule_in}
use Rattle.station_commands.specs.Order.{schedule_given}

-- a schedule, unless one of four tests fails
abbrev unless_one : Bool → Bool → Bool → Bool → Schedule → Result Schedule ScheduleFault
unless_one first second third last its =
    if first then Err Interval
    else if second then Err ShortDelay
    else if third then Err LongDelays
    else if last then Err ShortLife
    else Ok its

given_one : (first second third last : Bool) (its s : Schedule) → unless_one first second third last its ≡ Ok s → s ≡ its
given_one true second third last its s is = absurd (cc is)
given_one false true third last its s is = absurd (cc is)
given_one false false true last its s is = absurd (cc is)
given_one false false false true its s is = absurd (cc is)
given_one false false false false its s is = cc

-- it is the three numbers
pub schedule_is : (given : StationFacts) (s : Schedule) → schedule_given given ≡ Ok s → s ≡ schedule_in given
schedule_is given s is =
    given_one (given.interval == 0 || not (day % given.interval == 0))
    (nat_lt given.vote_seconds 20 || nat_lt given.dist_seconds 20)
    (nat_le given.interval (2 * (given.vote_seconds + given.dist_seconds))) (nat_lt given.interval 300)
    (schedule_in given) s is
