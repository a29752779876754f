use Rattle.std.proofs.Common.{sym, ◌∙◌}
use Rattle.report_command.proofs.FrontLine.{line_found, no_line_found}
use Rattle.report_command.proofs.line.begins_line.Goals as goal

pub returns-in-Some : goal.returns-in-Some
returns-in-Some c = c.is_line.ensures ∙ sym (line_found c.args.rest.now c.in-Some.len c.in-Some.ensures)

pub returns-in-None : goal.returns-in-None
returns-in-None c = sym (no_line_found c.args.rest.now c.in-None.ensures)
