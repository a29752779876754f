use Rattle.std.proofs.Common.{rules, ◌≡◌, true, false, None, sym, ◌∙◌}
use Rattle.blank_lines.proofs.LinesBehind.{ended_line, not_ended}
use Rattle.blank_lines.proofs.blanks.blank_size.Goals as goal

pub returns-in_err-len-clause-size : goal.returns-in_err-len-clause-size
returns-in_err-len-clause-size c =
    let none : c.from_residual.result ≡ None = search rules in
    none ∙ sym (not_ended c.args.rest.now c.in_err-len.ensures)

pub returns-then-has_blanks_alone-clause-size : goal.returns-then-has_blanks_alone-clause-size
returns-then-has_blanks_alone-clause-size c = sym (ended_line c.args.rest.now c.in_ok-len.len true c.in_ok-len.ensures (sym c.has_blanks_alone.ensures ∙ c.if-has_blanks_alone.true))

pub returns-else-has_blanks_alone-clause-size : goal.returns-else-has_blanks_alone-clause-size
returns-else-has_blanks_alone-clause-size c = sym (ended_line c.args.rest.now c.in_ok-len.len false c.in_ok-len.ensures (sym c.has_blanks_alone.ensures ∙ c.if-has_blanks_alone.false))
