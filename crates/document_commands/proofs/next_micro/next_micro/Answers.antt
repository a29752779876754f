use Rattle.std.{proofs.Common.{ℕ, Option, sym, ap, ◌∙◌, arith}, specs.Prelude.option_and_then}
use Rattle.blank_lines.{specs.Blanks.after_blanks, proofs.LinesBehind.no_line}
use Rattle.document_commands.specs.NextMicro.{if_onion_key}
use Rattle.document_commands.proofs.next_micro.next_micro.Goals as goal

pub returns-then-after-bytes : goal.returns-then-after-bytes
returns-then-after-bytes c =
    let bytes = c.args.bytes.now in
    let behind = λ (last : Option ℕ). option_and_then (λ after. after_blanks after bytes) last in
    sym
    (ap (λ (last : Option ℕ). option_and_then (if_onion_key bytes) (behind last)) (sym (c.in_ok-after.ensures))
    ∙ ap (λ (next : Option ℕ). option_and_then (if_onion_key bytes) next) (no_line c.in_ok-after.after bytes (omega (arith, c.if-after-bytes.true))))
