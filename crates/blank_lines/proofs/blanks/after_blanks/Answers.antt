use Rattle.std.proofs.Common.{sym, ◌∙◌, arith}
use Rattle.blank_lines.proofs.LinesBehind.{no_line, one_blank, one_other}
use Rattle.blank_lines.proofs.blanks.after_blanks.Goals as goal

pub returns-in_default-clause-value : goal.returns-in_default-clause-value
returns-in_default-clause-value c = sym (one_other c.lines.place c.args.bytes.now (omega arith) (sym c.in_default.is ∙ c.blank_size.ensures.size)) ∙ c.lines.invariant.same

pub lines-preserved : goal.lines-preserved
lines-preserved c =
    record {
      within = omega (arith, c.in-Some.ensures.within.1, c.lines.invariant.within);
      same = sym (one_blank c.lines.place c.in-Some.size c.args.bytes.now (omega arith) c.in-Some.ensures.size) ∙ c.lines.invariant.same;
    }

pub returns-clause-value : goal.returns-clause-value
returns-clause-value c = sym (no_line c.lines.place c.args.bytes.now (omega arith)) ∙ c.lines.invariant.same
