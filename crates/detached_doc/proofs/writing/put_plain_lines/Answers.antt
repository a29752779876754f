use Rattle.detached_doc.specs.Private.{plain_line_text}
use Rattle.text_page.proofs.Pages.{one_more_piece_put}
use Rattle.detached_doc.proofs.writing.put_plain_lines.Goals as goal

pub lines-preserved : goal.lines-preserved
lines-preserved c =
    one_more_piece_put plain_line_text _ _ _ c.args.lines.now c.lines.line-index c.line-item.result c.lines-test.true c.line-item.is c.lines.invariant
    c.put_plain_line.ensures
