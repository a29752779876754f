use Rattle.text_page.proofs.Pages.{also}
use Rattle.consensus_text.proofs.preamble.put_versions.Goals as goal

pub returns : goal.returns
returns c = also _ _ _ _ _ c.put_versions_line.ensures c.put_versions_line-2.ensures
