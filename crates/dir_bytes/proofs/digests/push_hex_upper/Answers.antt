use Rattle.std.proofs.Common.{◌/◌, ◌%◌, ◌++◌, ◌∷◌, [], List, ℕ, take, get_or, ap, sym, ◌∙◌, append_assoc, arith, rules}
use Rattle.std.proofs.lemmas.List.{append-nil}
use Rattle.hex.specs.Hex.{upper_digits}
use Rattle.dir_bytes.{specs.FieldTexts.hex_text, proofs.Spelling.{hex_text-nil, hex_text_more}}
use Rattle.dir_bytes.proofs.digests.push_hex_upper.Goals as goal

pub digits-init : goal.digits-init
digits-init c = record {
  items = rw (hex_text-nil, append-nil) c.reserve.ensures.items;
  room = search rules;
  capacity = search rules;
}

pub digits-preserved : goal.digits-preserved
digits-preserved c =
    let bytes = c.args.bytes.now in
    let i = c.digits.byte-index in
    let out = c.args.out.now.items in
    let pair : List ℕ = get_or upper_digits (get_or bytes i 0 / 16) 0 ∷ get_or upper_digits (get_or bytes i 0 % 16) 0 ∷ [] in
    let step = hex_text_more bytes i c.digits-test.true in
    record {
      items = c.append.ensures.items ∙ ap (λ (l : List ℕ). l ++ pair) c.digits.invariant.items ∙ append_assoc out (hex_text (take i bytes)) pair ∙ ap (λ (l : List ℕ). out ++ l) (sym step);
      room = omega (arith, c.digits.invariant.room, c.append.ensures, c.digits-test.true);
      capacity = search rules;
    }
