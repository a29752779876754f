use Rattle.std.{proofs.Common.{◌≡◌, ℕ, List, sym, ap, ◌∙◌, subst}, specs.Prelude.{not, ◌==◌, map, filter}}
use Rattle.std.specs.List.{flat_map}
use Rattle.dir_values.specs.FlagSets as flag_sets
use Rattle.dir_values.proofs.Flags.{Ascend-as_set}
use Rattle.list_values.specs.{Maps.{Ascend, named_value, names_of}, Masks.all_listed}
use Rattle.field_votes.specs.{Lists.{all_names, listed_numbers, is_listed_protocol}, Private.listed_mask}
use Rattle.field_votes.proofs.{ListedMasks.listed_among, NamedLists.ascend_among}
use Rattle.field_votes.proofs.protocol_votes.protocols.Goals as goal

pub new-requires : goal.new-requires
new-requires c =
    let lists = c.args.lists.now in
    let names : c.deref.result.now ≡ all_names lists = c.deref.ensures.value ∙ c.in_ok-names.ensures in
    subst Ascend (sym c.in_ok-items.ensures)
    (ascend_among (listed_mask c.args.least lists) (λ (name : List ℕ). not (listed_mask c.args.least lists name == 0)) c.deref.result.now
    (subst flag_sets.Ascend (sym names) (Ascend-as_set (flat_map names_of lists))))

pub returns : goal.returns
returns c =
    let lists = c.args.lists.now in
    let names : c.deref.result.now ≡ all_names lists = c.deref.ensures.value ∙ c.in_ok-names.ensures in
    c.new.ensures ∙ ap all_listed c.in_ok-items.ensures ∙ listed_among c.args.least lists c.deref.result.now
    ∙ ap (λ (l : List (List ℕ)). map (λ (name : List ℕ). named_value name (listed_numbers c.args.least lists name))
    (filter (is_listed_protocol c.args.least lists) l)) names
