use Rattle.text_page.proofs.Pages.{also}
use Rattle.consensus_text.proofs.preamble.put_kind.Goals as goal

pub returns : goal.returns
returns c = also _ _ _ _ _ (also _ _ _ _ _ c.put_version_line.ensures c.put_word_line.ensures) c.put_number_line.ensures
