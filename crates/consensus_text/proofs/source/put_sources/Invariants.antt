use Rattle.std.{proofs.Common.{◌≡◌, take}, specs.List.flat_map}
use Rattle.consensus_terms.specs.Texts.{source_lines}
use Rattle.text_page.specs.Pages.{with_text}
use Rattle.consensus_text.proofs.source.put_sources.Given as goal

abbrev pub invariant-sources : goal.invariant-sources
invariant-sources l = l.page ≡ with_text l.fn.page (flat_map source_lines (take l.source-index l.sources))
