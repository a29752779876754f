use Rattle.std.{proofs.Common.ap, specs.List.flat_map}
use Rattle.text_page.proofs.Pages.{also, same_text}
use Rattle.detached_doc.specs.Private.{digest_text}
use Rattle.detached_doc.proofs.writing.put_detached.Goals as goal

pub returns : goal.returns
returns c =
    let digests = same_text _ _ _ _ (ap (flat_map digest_text) c.as_slice.ensures) c.put_digests.ensures in
    also _ _ _ _ _ c.put_head.ensures
    (also _ _ _ _ _ digests (also _ _ _ _ _ c.put_additional_lines.ensures c.put_plain_lines.ensures))
