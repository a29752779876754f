use Rattle.text_page.proofs.Pages.{also}
use Rattle.consensus_text.proofs.preamble.put_protocols.Goals as goal

pub returns : goal.returns
returns c =
    also _ _ _ _ _
    (also _ _ _ _ _ (also _ _ _ _ _ c.put_protocols_line.ensures c.put_protocols_line-2.ensures) c.put_protocols_line-3.ensures)
    c.put_protocols_line-4.ensures
