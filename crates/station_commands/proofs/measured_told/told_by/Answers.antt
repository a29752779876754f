use Rattle.std.proofs.Common.{rules, ◌≡◌, List, sym, subst}
use Rattle.station_input.specs.declared.frame_said.MeasuredRelay.{MeasuredRelay}
use Rattle.station_commands.{specs.MeasuredTold.{AreToldBy, told_relays}, proofs.Telling.all_tell}
use Rattle.station_commands.proofs.measured_told.told_by.Goals as goal

pub returns-clause-told : goal.returns-clause-told
returns-clause-told c =
    let list : c.push_rows.new.relays.items ≡ told_relays c.args.file.now c.args.measured.now = search rules in
    subst (λ (l : List MeasuredRelay). AreToldBy c.args.file.now c.args.measured.now l) (sym list)
    (all_tell c.args.file.now c.args.measured.now)
