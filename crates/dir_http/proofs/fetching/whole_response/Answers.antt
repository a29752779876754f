use Rattle.std.proofs.Common.{length-drop, arith}
use Rattle.dir_http.proofs.WholeAnswers.{too_long_answer, coded_answer, other_length}
use Rattle.dir_http.proofs.fetching.whole_response.Goals.{then-parts-gt-HEAD_LIMIT-via-then-parts-gt-HEAD_LIMIT}
use Rattle.dir_http.proofs.fetching.whole_response.Goals.{then-parts-gt-HEAD_LIMIT-via-else-parts-gt-HEAD_LIMIT+then-parts}
use Rattle.dir_http.proofs.fetching.whole_response.Goals.{then-parts-gt-HEAD_LIMIT-via-else-parts-gt-HEAD_LIMIT+else-parts+then-not-fits}
use Rattle.dir_http.proofs.fetching.whole_response.Goals as goal

pub returns-then-parts-gt-HEAD_LIMIT : goal.returns-then-parts-gt-HEAD_LIMIT
returns-then-parts-gt-HEAD_LIMIT c =
    let bytes = c.args.bytes.now in
    let whole = c.in-Whole.ensures.1 in
    elim c.then-parts-gt-HEAD_LIMIT.branch [
      | then-parts-gt-HEAD_LIMIT-via-then-parts-gt-HEAD_LIMIT w ↦
          too_long_answer bytes c.in-Whole.parts whole.0 whole.1 (omega (arith, w.if-parts-gt-HEAD_LIMIT.true))
      | then-parts-gt-HEAD_LIMIT-via-else-parts-gt-HEAD_LIMIT+then-parts w ↦
          coded_answer bytes c.in-Whole.parts whole.0 whole.1 w.if-parts.true
      | then-parts-gt-HEAD_LIMIT-via-else-parts-gt-HEAD_LIMIT+else-parts+then-not-fits w ↦
          other_length bytes c.in-Whole.parts whole.0 _ whole.1 (length-drop c.in-Whole.parts.len bytes) w.if-not-fits.ensures
    ]
