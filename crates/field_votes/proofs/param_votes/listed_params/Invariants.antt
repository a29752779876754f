use Rattle.std.proofs.Common.{◌≡◌, ◌++◌, drop}
use Rattle.field_votes.specs.Private.{params_among}
use Rattle.field_votes.proofs.param_votes.listed_params.Given as goal

abbrev pub invariant-names : goal.invariant-names
invariant-names l =
    l.listed.items ++ params_among l.roster l.lists (drop l.name-index l.names) ≡ params_among l.fn.roster l.fn.lists l.fn.names
