use Rattle.std.proofs.Common.{rules}
use Rattle.text_page.proofs.Pages.{same_text}
use Rattle.detached_doc.proofs.Rests.{line_put, tail_hex}
use Rattle.detached_doc.proofs.writing.put_hex_line.Goals as goal

pub returns : goal.returns
returns c =
    line_put _ _ _ _ _ _ _ (same_text _ _ _ _ c.text.ensures c.put.ensures) c.put-2.ensures c.put_hex.ensures
    c.put-3.ensures (tail_hex c.args.digest.now (search rules))
