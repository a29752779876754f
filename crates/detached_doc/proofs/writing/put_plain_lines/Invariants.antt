use Rattle.std.{proofs.Common.{◌≡◌, take}, specs.List.flat_map}
use Rattle.detached_doc.specs.Private.{plain_line_text}
use Rattle.text_page.specs.Pages.{with_text}
use Rattle.detached_doc.proofs.writing.put_plain_lines.Given as goal

abbrev pub invariant-lines : goal.invariant-lines
invariant-lines l = l.page ≡ with_text l.fn.page (flat_map plain_line_text (take l.line-index l.lines))
