use Rattle.std.proofs.Common.{rules, sym, ◌∙◌}
use Rattle.bandwidth_file.proofs.Passing.{ends_there, within_there, passes_on, none_ended, none_left, none_passed}
use Rattle.bandwidth_file.proofs.ends.end_place.Goals as goal

pub lines-init : goal.lines-init
lines-init c = none_passed c.args.bytes.now

pub returns-then-is_end-clause-place : goal.returns-then-is_end-clause-place
returns-then-is_end-clause-place c =
    sym (ends_there c.args.bytes.now c.lines.place c.in-Some.len c.lines.invariant (search rules) c.in-Some.ensures
    (sym c.is_end.ensures ∙ search rules))

pub returns-then-is_end-clause-within : goal.returns-then-is_end-clause-within
returns-then-is_end-clause-within c =
    within_there c.args.bytes.now c.lines.place c.in-Some.len c.lines.invariant (search rules) c.in-Some.ensures
    (sym c.is_end.ensures ∙ search rules)

pub returns-in-None-clause-place : goal.returns-in-None-clause-place
returns-in-None-clause-place c =
    sym (none_ended c.args.bytes.now c.lines.place c.lines.invariant (search rules) c.in-None.ensures)

pub lines-preserved : goal.lines-preserved
lines-preserved c =
    passes_on c.args.bytes.now c.lines.place c.in-Some.len c.lines.invariant (search rules) c.in-Some.ensures
    (sym c.is_end.ensures ∙ search rules)

pub returns-clause-place : goal.returns-clause-place
returns-clause-place c = sym (none_left c.args.bytes.now c.lines.place c.lines.invariant (search rules))
