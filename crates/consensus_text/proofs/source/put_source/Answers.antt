use Rattle.text_page.proofs.Pages.{also}
use Rattle.consensus_text.proofs.source.put_source.Goals as goal

pub returns : goal.returns
returns c = also _ _ _ _ _ (also _ _ _ _ _ c.put_dir_source.ensures c.put_rest_line.ensures) c.put_hex_line.ensures
