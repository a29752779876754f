use Rattle.std.proofs.Common.{◌≡◌, take}
use Rattle.dir_bytes.specs.FieldTexts.{hex_text}
use Rattle.text_page.specs.Pages.{with_text}
use Rattle.detached_doc.proofs.hex_digits.put_hex_bytes.Given as goal

abbrev pub invariant-digits : goal.invariant-digits
invariant-digits l = l.page ≡ with_text l.fn.page (hex_text (take l.byte-index l.bytes))
