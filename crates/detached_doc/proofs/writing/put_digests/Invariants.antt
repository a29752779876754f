use Rattle.std.{proofs.Common.{◌≡◌, take}, specs.List.flat_map}
use Rattle.detached_doc.specs.Private.{digest_text}
use Rattle.text_page.specs.Pages.{with_text}
use Rattle.detached_doc.proofs.writing.put_digests.Given as goal

abbrev pub invariant-digests : goal.invariant-digests
invariant-digests l = l.page ≡ with_text l.fn.page (flat_map digest_text (take l.digest-index l.digests))
