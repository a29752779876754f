use Rattle.std.{proofs.Common.{List, ℕ, ap₂, ◌∙◌}, specs.Prelude.filter}
use Rattle.field_votes.specs.Versions.{all_versions, is_listed_by_most, lists_there}
use Rattle.field_votes.proofs.VersionSets.{filter-in_order}
use Rattle.field_votes.proofs.version_votes.versions.Goals as goal

pub returns : goal.returns
returns c =
    let lists = lists_there c.args.lists.now in
    c.new.ensures ∙ c.in_ok-listed.ensures
    ∙ ap₂ (λ (sets : List (List (List ℕ))) (all : List (List ℕ)). filter (is_listed_by_most sets) all)
    (c.deref.ensures.value ∙ c.in_ok-sets.ensures) c.in_ok-all.ensures
    ∙ filter-in_order lists (all_versions lists)
