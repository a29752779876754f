use Rattle.std.proofs.Common.{arith, length-take, sym}
use Rattle.report_command.proofs.FrontLine.{stands_behind}
use Rattle.report_command.proofs.line.line_place.Goals as goal

pub ends_at-requires-clause-within : goal.ends_at-requires-clause-within
ends_at-requires-clause-within c =
    let behind = stands_behind c.args.place c.args.bytes.now c.in_ok-at.at (sym c.in_ok-at.ensures.value) in
    omega (arith, behind, length-take c.in_ok-at.at c.args.bytes.now, c.in_ok-at.ensures.inside)
