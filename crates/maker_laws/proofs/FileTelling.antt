-- What was measured, with a file's bandwidths, is told by that file.
use Rattle.std.proofs.Common.{sym, subst}
use Rattle.station_commands.{specs.MeasuredTold.AreToldBy, proofs.Telling.all_tell}
use Rattle.maker_laws.{specs.Votes.{ToldEntriesAreTold, ToldRelaysAreTold}, proofs.Telling.entries_told}

pub relays_told : ToldRelaysAreTold
relays_told file before = all_tell file before

pub file_entries_told : ToldEntriesAreTold
file_entries_told file before its rulings is =
    entries_told file before its rulings (subst (AreToldBy file before) (sym is) (all_tell file before))
