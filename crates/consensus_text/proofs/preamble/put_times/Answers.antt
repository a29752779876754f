use Rattle.text_page.proofs.Pages.{also}
use Rattle.consensus_text.proofs.preamble.put_times.Goals as goal

pub returns : goal.returns
returns c = also _ _ _ _ _ (also _ _ _ _ _ (also _ _ _ _ _ c.put_moment_line.ensures c.put_moment_line-2.ensures) c.put_moment_line-3.ensures) c.put_two_numbers_line.ensures
