use Rattle.std.{proofs.Common.{◌≡◌, drop, List, ℕ}, specs.List.{fold, flat_map}}
use Rattle.field_votes.specs.Versions.{all_versions, lists_there, with_version}
use Rattle.field_votes.proofs.version_votes.all_versions.Given as goal

abbrev pub invariant-lists : goal.invariant-lists
invariant-lists l =
    fold with_version l.all (flat_map (λ (list : List (List ℕ)). list) (lists_there (drop l.list-index l.lists)))
    ≡ all_versions (lists_there l.fn.lists)
