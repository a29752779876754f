use Rattle.text_page.proofs.Pages.{also}
use Rattle.consensus_text.proofs.preamble.put_version.Goals as goal

pub returns-in-Microdesc : goal.returns-in-Microdesc
returns-in-Microdesc c = rw c.in-Microdesc.is (also _ _ _ _ _ c.put_word-in-Microdesc.ensures c.put_word-in-Microdesc-2.ensures)
