use Rattle.std.proofs.{Common.{◌∙◌, Err, ap, arith}, lemmas.Result.err_from_is_err_and}
use Rattle.dir_http.proofs.Reading.{too_long, handed_on}
use Rattle.dir_http.proofs.head.head_of.Goals as goal

pub returns-then-parts-gt-HEAD_LIMIT-clause-answer :
    goal.returns-then-parts-gt-HEAD_LIMIT-clause-answer
returns-then-parts-gt-HEAD_LIMIT-clause-answer c =
    λ more any. too_long c.args.bytes.now c.args.parts c.requires.1.0 c.requires.1.1
    (omega (arith, c.if-parts-gt-HEAD_LIMIT.true)) more

pub returns-in_err-length-clause-answer : goal.returns-in_err-length-clause-answer
returns-in_err-length-clause-answer c =
    let told = err_from_is_err_and c.from_residual.result c.from_residual.ensures.1 in
    handed_on c.args.bytes.now c.args.parts c.requires.1.0 c.of-path.result.now c.in_err-length.field-0.0
    c.from_residual.result
    c.requires.1.1 (omega (arith, c.if-parts-gt-HEAD_LIMIT.false)) (c.of-path.ensures ∙ c.requires.1.1.path)
    c.in_err-length.ensures.cause c.in_err-length.ensures.value (told.1 ∙ ap Err told.2)
