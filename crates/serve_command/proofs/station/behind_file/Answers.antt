use Rattle.serve_command.proofs.Reading.{begins, faulty_behind, no_file, read_behind}
use Rattle.serve_command.proofs.station.behind_file.Goals as goal

pub returns-in-Err-clause-stops : goal.returns-in-Err-clause-stops
returns-in-Err-clause-stops c =
    rw c.of_file.ensures
    (no_file c.args.newest c.args.now c.args.bytes.now c.deref.result.now c.in-Err.why c.deref.ensures c.in-Err.ensures)

pub returns-in-Ok-station_behind-clause-read : goal.returns-in-Ok-station_behind-clause-read
returns-in-Ok-station_behind-clause-read c =
    let bytes = c.args.bytes.now in
    let front = c.in-Ok.front in
    read_behind c.args.newest c.args.now bytes c.deref-2.result.now front c.deref-2.ensures
    (begins c.args.newest c.args.now bytes c.deref.result.now front c.deref.ensures c.in-Ok.ensures)
    c.in-Ok-station_behind.station c.in-Ok-station_behind.used c.in-Ok-station_behind.ensures

pub returns-clause-stops : goal.returns-clause-stops
returns-clause-stops c =
    let bytes = c.args.bytes.now in
    let front = c.in-Ok.front in
    rw c.of_fault.ensures
    (faulty_behind c.args.newest c.args.now bytes c.deref-2.result.now front c.deref-2.ensures
    (begins c.args.newest c.args.now bytes c.deref.result.now front c.deref.ensures c.in-Ok.ensures)
    c.in-Err-station_behind.why c.in-Err-station_behind.ensures)
