use Rattle.text_page.proofs.Pages.{also}
use Rattle.consensus_text.proofs.body.put_footer.Goals as goal

pub returns : goal.returns
returns c = also _ _ _ _ _ c.put_bare_line.ensures c.put_weights_if.ensures
