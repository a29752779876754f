use Rattle.std.proofs.Common.{rules, ◌≡◌, Bool, false, Some, None, ap, ◌∙◌, if◌then◌else◌}
use Rattle.bandwidth_file.specs.declared.refusal.BandReason.TheVariants as reason
use Rattle.bandwidth_file.{specs.Lines.at, proofs.Rows.{many_is, has_one_more}}
use Rattle.bandwidth_file.proofs.reading.put_row.Goals as goal

pub returns-clause-ok : goal.returns-clause-ok
returns-clause-ok c =
    let within : c.is_over.result ≡ false = search rules in
    λ rows has. (
      many_is rows c.args.place c.args.row c.args.relays.now c.is_over.result has c.is_over.ensures
          ∙ ap (λ (b : Bool). if b then Some (at c.args.place reason.TooMany) else None) within,
      has_one_more rows c.args.row c.args.relays.now c.put.new.self has c.in_ok-put.ensures.value c.in_ok-put.ensures.len,
    )
