use Rattle.std.proofs.Common.{sym, subst}
use Rattle.daemon_words.specs.declared.command.Measures.{Measures}
use Rattle.serve_command.specs.{Private.{IsReadIn, StopsFor}, Starting.IsFaultyIn, Told.of_fault}
use Rattle.serve_command.proofs.Reading.{not_there, read_there}
use Rattle.serve_command.proofs.station.station_in.Goals as goal

pub returns-in-Ok-clause-read : goal.returns-in-Ok-clause-read
returns-in-Ok-clause-read c =
    subst (λ (m : Measures). IsReadIn m c.args.newest c.args.now c.args.bytes.now c.in-Ok.station c.in-Ok.used)
    (sym c.in-Station.is)
    (read_there c.args.newest c.args.now c.args.bytes.now c.in-Ok.station c.in-Ok.used
    c.in-Ok.ensures)

pub returns-in-Err-clause-stops : goal.returns-in-Err-clause-stops
returns-in-Err-clause-stops c =
    rw c.of_fault.ensures
    (subst (λ (m : Measures). StopsFor (IsFaultyIn m c.args.newest c.args.now c.args.bytes.now)
    (of_fault c.in-Err.why)) (sym c.in-Station.is)
    (not_there c.args.newest c.args.now c.args.bytes.now c.in-Err.why c.in-Err.ensures))
