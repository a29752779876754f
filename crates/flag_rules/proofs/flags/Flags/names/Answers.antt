use Rattle.std.{proofs.Common.{rules, ◌≡◌, ◌∙◌, sym, []}, specs.List.fold}
use Rattle.flag_rules.{specs.{Names.{name_table, names_of}, Private.with_name}, proofs.NameSets.with_rows}
use Rattle.flag_rules.proofs.flags.Flags.names.Goals as goal

pub returns : goal.returns
unfolding names_of
returns c =
    let rows = name_table c.args.self.now in
    let in_turn : c.insert_if-12.new.names ≡ fold (λ names row. with_name row.0 row.1 names) [] rows = search rules in
    in_turn ∙ sym (with_rows [] rows)
