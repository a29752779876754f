use Rattle.std.{proofs.Common.{◌≡◌, take}, specs.List.flat_map}
use Rattle.consensus_terms.specs.Lines.{behind_space}
use Rattle.text_page.specs.Pages.{with_text}
use Rattle.consensus_text.proofs.words.put_flags.Given as goal

abbrev pub invariant-flags : goal.invariant-flags
invariant-flags l = l.page ≡ with_text l.fn.page (flat_map behind_space (take l.i l.flags))
