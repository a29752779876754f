use Rattle.std.proofs.Common.{refl}
use Rattle.station_input.proofs.KeptStations.{reads}
use Rattle.station_input.proofs.reading.read_station.Goals as goal

pub returns-in-Ok : goal.returns-in-Ok
returns-in-Ok c = (
  reads c.args.newest c.args.bytes.now c.nothing_kept-kept.result c.read_document.new.facts c.new-items.result
      c.in_ok-used.used c.in-Ok.facts c.new-items.ensures c.nothing_kept-kept.ensures c.in_ok-used.ensures.folds c.in-Ok.ensures,
  c.in_ok-used.ensures.within 0 268435456 c.args.bytes.now c.new-items.ensures refl,
)
