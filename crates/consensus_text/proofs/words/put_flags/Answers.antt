use Rattle.consensus_terms.specs.Lines.{behind_space}
use Rattle.text_page.proofs.Pages.{one_more_at}
use Rattle.consensus_text.proofs.words.put_flags.Goals as goal

pub flags-preserved : goal.flags-preserved
flags-preserved c =
    one_more_at behind_space _ _ _ c.args.flags.now c.flags.i c.flag.result.now c.flag.ensures c.flags.invariant c.put_word.ensures
