use Rattle.std.proofs.{Common.{ℕ, ◌+◌, ap, subst, sym, ◌≤◌, length}, lemmas.Result.err_from_is_err_and}
use Rattle.bandwidth_file.{specs.Lending.line_seen, proofs.Lineage.{read_one, refused_there, ends_inside}}
use Rattle.bandwidth_file.proofs.reading.read.Goals as goal

pub returns-in_err-take-clause-fault : goal.returns-in_err-take-clause-fault
returns-in_err-take-clause-fault c =
    let p = err_from_is_err_and c.from_residual.result c.from_residual.ensures.1 in
    rw (p.1, p.2) (refused_there c.args.bytes.now c.lines.place (line_seen c.first_line-line.result) c.lines.reading c.lines.invariant c.in_err-take.field-0.0
    c.first_line-line.ensures.line
    (c.in_err-take.ensures.err c.lines.invariant.before c.lines.invariant.there c.lines.invariant.holds))

pub lines-preserved : goal.lines-preserved
lines-preserved c =
    let next = ap (λ (n : ℕ). c.lines.place + n) c.size_of.ensures in
    read_one c.args.bytes.now c.lines.place (c.lines.place + c.size_of.result) (line_seen c.first_line-line.result) c.lines.reading c.take.new.self c.lines.invariant
    c.first_line-line.ensures.line next
    (subst (λ (n : ℕ). n ≤ length c.args.bytes.now) (sym next)
    (ends_inside c.args.bytes.now c.lines.place _ c.lines.invariant.inside c.first_line-line.ensures.within))
    (c.in_ok-take.ensures.ok c.lines.invariant.before c.lines.invariant.there c.lines.invariant.holds)
