use Rattle.detached_doc.specs.Private.{digest_text}
use Rattle.text_page.proofs.Pages.{one_more_piece_put}
use Rattle.detached_doc.proofs.writing.put_digests.Goals as goal

pub digests-preserved : goal.digests-preserved
digests-preserved c =
    one_more_piece_put digest_text _ _ _ c.args.digests.now c.digests.digest-index c.digest-item.result c.digests-test.true c.digest-item.is c.digests.invariant
    c.put_digest.ensures
