use Rattle.std.proofs.Common.{ℕ, ◌/◌, ◌%◌, ◌++◌, ◌∷◌, [], ap}
use Rattle.dir_bytes.specs.FieldTexts.{clock_text, date_text, moment_text}
use Rattle.dirdoc_grammar.specs.Writing.{tail}
use Rattle.frame_terms.specs.Keywords.{text_of}
use Rattle.text_page.proofs.Pages.{same_text}
use Rattle.detached_doc.proofs.Rests.{line_put, tail_two}
use Rattle.detached_doc.proofs.writing.put_moment_line.Goals as goal

pub returns : goal.returns
returns c =
    let moment = c.moment.result in
    same_text _ _ _ _
    (ap (λ (m : ℕ). (text_of c.args.keyword ++ tail (moment_text m)) ++ 10 ∷ []) c.moment.ensures.value)
    (line_put _ _ _ _ _ _ _ (same_text _ _ _ _ c.text.ensures c.put.ensures) c.put-2.ensures c.put_moment.ensures
    c.put-3.ensures (tail_two (date_text (moment / 86400)) (clock_text (moment % 86400))))
