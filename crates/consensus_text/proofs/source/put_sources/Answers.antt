use Rattle.consensus_terms.specs.Texts.{source_lines}
use Rattle.text_page.proofs.Pages.{one_more_piece_put}
use Rattle.consensus_text.proofs.source.put_sources.Goals as goal

pub sources-preserved : goal.sources-preserved
sources-preserved c =
    one_more_piece_put source_lines _ _ _ c.args.sources.now c.sources.source-index c.source-item.result c.sources-test.true c.source-item.is c.sources.invariant
    c.put_source.ensures
