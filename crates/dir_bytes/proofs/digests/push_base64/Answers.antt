use Rattle.std.proofs.Common.{◌≡◌, ◌∙◌, ◌++◌, List, ℕ, ap, sym, length, arith, rules, append_assoc, length-append}
use Rattle.dir_bytes.{specs.FieldTexts.base64_text, proofs.Spelling.base64_text-piece}
use Rattle.dir_bytes.proofs.digests.push_base64.Goals as goal

pub pieces-preserved : goal.pieces-preserved
pieces-preserved c =
    let rest = c.pieces.rest.now in
    let out = c.pieces.out.items in
    let piece = base64_text c.split_at.result.0.now in
    let others = base64_text c.split_at.result.1.now in
    let whole : base64_text rest ≡ piece ++ others =
    rw (c.split_at.ensures.front, c.split_at.ensures.back) (base64_text-piece rest (omega (arith, c.pieces-test.true))) in
    record {
      items = ap (λ (l : List ℕ). l ++ others) c.append_base64.ensures.items ∙ append_assoc out piece others
          ∙ ap (λ (l : List ℕ). out ++ l) (sym whole) ∙ c.pieces.invariant.items;
      room = omega (arith, c.append_base64.ensures, c.pieces.invariant.room, ap (λ (l : List ℕ). length l) whole, length-append piece others);
      capacity = search rules;
    }
