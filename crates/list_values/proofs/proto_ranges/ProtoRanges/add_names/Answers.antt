use Rattle.std.{proofs.Common.{◌≡◌, ℕ, List, subst, ap, ◌∙◌}, specs.{Prelude.{OnOk, OnErr}, List.fold}}
use Rattle.dir_values.specs.{FlagSets.with_flag, WordSets.HasFirst}
use Rattle.list_values.{specs.Maps.names_of, proofs.ListedProtocols.names_listed}
use Rattle.list_values.proofs.proto_ranges.ProtoRanges.add_names.Goals as goal

pub returns-clause-ok : goal.returns-clause-ok
returns-clause-ok c =
    let same : names_of c.deref.result.now ≡ names_of c.args.self.now =
    ap names_of c.deref.ensures.value ∙ names_listed c.self.inside.items.items ∙ ap names_of c.self.view_is in
    subst (λ (n : List (List ℕ)). OnOk c.add_names.result (c.add_names.new.names ≡ fold with_flag c.args.names.now n)) same
    c.add_names.ensures.ok

pub returns-clause-err : goal.returns-clause-err
returns-clause-err c =
    let same : names_of c.deref.result.now ≡ names_of c.args.self.now =
    ap names_of c.deref.ensures.value ∙ names_listed c.self.inside.items.items ∙ ap names_of c.self.view_is in
    subst (λ (n : List (List ℕ)). OnErr c.add_names.result (HasFirst c.args.names.now n c.add_names.new.names)) same
    c.add_names.ensures.err
