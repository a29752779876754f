use Rattle.std.proofs.Common.{◌/◌, ◌%◌, ◌∷◌, [], List, ℕ, Option, take, get_or, ap, sym, ◌∙◌}
use Rattle.hex.specs.Hex.{upper_digits}
use Rattle.dir_bytes.{specs.FieldTexts.hex_text, proofs.Spelling.{hex_text-nil, hex_text_more}}
use Rattle.text_page.{specs.Pages.{Sheet, with_text}, proofs.Pages.{with_text-joined, with_text-nothing}}
use Rattle.detached_doc.proofs.hex_digits.put_hex_bytes.Goals as goal

pub digits-init : goal.digits-init
digits-init c =
    sym (ap (λ (l : List ℕ). with_text c.args.page.now l) hex_text-nil ∙ with_text-nothing c.args.page.now)

pub digits-preserved : goal.digits-preserved
digits-preserved c =
    let bytes = c.args.bytes.now in
    let i = c.digits.byte-index in
    let start = c.args.page.now in
    let pair : List ℕ =
    get_or upper_digits (get_or bytes i 0 / 16) 0 ∷ get_or upper_digits (get_or bytes i 0 % 16) 0 ∷ [] in
    c.put.ensures ∙ ap (λ (page : Option Sheet). with_text page pair) c.digits.invariant
    ∙ with_text-joined start (hex_text (take i bytes)) pair
    ∙ ap (λ (l : List ℕ). with_text start l) (sym (hex_text_more bytes i c.digits-test.true))
