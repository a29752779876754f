use Rattle.std.{proofs.Common.{ℕ, Option, ap, ◌∙◌}, specs.Prelude.unwrap_or}
use Rattle.list_values.{specs.Masks.numbers_of, proofs.ListedProtocols.numbers_listed}
use Rattle.list_values.proofs.protocol_list.mask_at.Goals as goal

pub returns : goal.returns
returns c =
    ap numbers_of (c.unwrap_or.ensures ∙ ap (λ (o : Option ℕ). unwrap_or o 0) c.get.ensures)
    ∙ numbers_listed c.args.map.now c.args.name.now
