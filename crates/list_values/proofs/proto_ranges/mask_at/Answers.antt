use Rattle.std.{proofs.Common.{ℕ, Option, ap, ◌∙◌}, specs.Prelude.unwrap_or}
use Rattle.list_values.{specs.Masks.numbers_of, proofs.ListedProtocols.numbers_listed}
use Rattle.list_values.proofs.proto_ranges.mask_at.Goals as goal

pub returns : goal.returns
returns c =
    ap numbers_of (c.unwrap_or.ensures ∙ ap (λ (o : Option ℕ). unwrap_or o 0) c.value_for.ensures)
    ∙ numbers_listed c.args.items.now c.args.name.now
