use Rattle.std.proofs.Common.{ℕ, Some, ap, inl, subst, sym, ◌∙◌}
use Rattle.bandwidth_file.specs.{Lines.at, Refusals.RefusedAs, declared.refusal.BandReason.TheVariants.Timestamp}
use Rattle.bandwidth_file.{specs.Fronts.open_fault, proofs.OpenInputs.{lines_first, timeless_on}}
use Rattle.bandwidth_file.proofs.front.without_time.Goals as goal

pub returns-then-place-bytes : goal.returns-then-place-bytes
returns-then-place-bytes c =
    let bytes = c.args.bytes.now in
    subst (RefusedAs (open_fault bytes)) (sym c.unterminated.ensures)
    (timeless_on bytes (c.requires ∙ ap (λ (n : ℕ). Some (at n Timestamp)) c.if-place-bytes.true))

pub returns-else-place-bytes : goal.returns-else-place-bytes
returns-else-place-bytes c =
    lines_first c.args.bytes.now c.args.place Timestamp (inl c.if-place-bytes.false) c.requires
