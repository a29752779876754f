use Rattle.std.{proofs.Common.{◌≡◌, ℕ, List, sym, ◌∙◌, subst}, specs.List.flat_map}
use Rattle.dir_values.specs.FlagSets as flag_sets
use Rattle.dir_values.proofs.Flags.{Ascend-as_set}
use Rattle.list_values.specs.Maps.{Ascend, names_of}
use Rattle.field_votes.{specs.Lists.{all_names, median_param, is_listed_param}, proofs.NamedLists.ascend_among}
use Rattle.field_votes.proofs.param_votes.params.Goals as goal

pub new-requires : goal.new-requires
new-requires c =
    let lists = c.args.lists.now in
    let names : c.deref.result.now ≡ all_names lists = c.deref.ensures.value ∙ c.in_ok-names.ensures in
    subst Ascend (sym c.in_ok-items.ensures)
    (ascend_among (λ (name : List ℕ). (median_param lists name).value) (is_listed_param c.args.roster lists) c.deref.result.now
    (subst flag_sets.Ascend (sym names) (Ascend-as_set (flat_map names_of lists))))
