use Rattle.std.proofs.Common.{◌∙◌, arith}
use Rattle.dir_http.proofs.Arrivals.{head_too_long, head_refused, body_awaited}
use Rattle.dir_http.proofs.arrival.missing_behind.Goals as goal

pub returns-then-parts-gt-HEAD_LIMIT-clause-settled : goal.returns-then-parts-gt-HEAD_LIMIT-clause-settled
returns-then-parts-gt-HEAD_LIMIT-clause-settled c =
    λ none. head_too_long c.args.bytes.now c.args.parts c.requires.1.0 c.requires.1.1
    (omega (arith, c.if-parts-gt-HEAD_LIMIT.true))

pub returns-in-Ok-clause-awaits : goal.returns-in-Ok-clause-awaits
returns-in-Ok-clause-awaits c =
    let whole = c.requires.1 in
    λ more few has. body_awaited c.args.bytes.now c.args.parts whole.0 c.of.result.now c.in-Ok.length whole.1
    (c.of.ensures ∙ whole.1.path) c.in-Ok.ensures.value more (omega (arith, few, c.saturating_sub.ensures)) has

pub returns-in-Err-clause-settled : goal.returns-in-Err-clause-settled
returns-in-Err-clause-settled c =
    let whole = c.requires.1 in
    λ none. head_refused c.args.bytes.now c.args.parts whole.0 c.of.result.now c.in-Err.field-0 whole.1
    (omega (arith, c.if-parts-gt-HEAD_LIMIT.false)) (c.of.ensures ∙ whole.1.path) c.in-Err.ensures.cause
    c.in-Err.ensures.value
