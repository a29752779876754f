use Rattle.station_commands.proofs.{Reading.rest_is, StationBehind.{fits_behind, stands_behind}}
use Rattle.station_commands.proofs.behind.station_behind.Goals as goal

pub returns-in_ok-told-in-Ok : goal.returns-in_ok-told-in-Ok
returns-in_ok-told-in-Ok c =
    let bytes = c.args.bytes.now in
    let front = c.args.front.now in
    stands_behind c.args.newest front.file front.used bytes _ c.in-Ok.station c.in_ok-told-in-Ok.field-0 c.in-Ok.used
    (rest_is front.used bytes) c.requires.within c.in-Ok.ensures c.in_ok-told-in-Ok.ensures

pub fault_behind-requires : goal.fault_behind-requires
fault_behind-requires c =
    let bytes = c.args.bytes.now in
    let front = c.args.front.now in
    fits_behind c.args.newest front.used bytes _ c.in-Err.refusal
    (rest_is front.used bytes) c.requires.within c.requires.short
    c.in-Err.ensures
