use Rattle.serve_command.proofs.Starts.{is_start}
use Rattle.serve_command.proofs.starting.start.Goals as goal

pub returns-in-Ok-clause-start : goal.returns-in-Ok-clause-start
returns-in-Ok-clause-start g c =
    is_start c.in_ok-roster.roster c.args.station.now.identity c.args.station.now.newest c.args.schedule c.args.now
    c.in-Ok.started
    c.len.ensures.roster c.interval.ensures.schedule c.in-Ok.ensures
