use Rattle.std.proofs.Common.{◌≡◌, take, map}
use Rattle.period_core.specs.Views.{signer_key}
use Rattle.period_core.proofs.view.keys_of.Given as goal

-- the keys of the votes so far
abbrev pub invariant-votes : goal.invariant-votes
invariant-votes l = l.keys.items ≡ map signer_key (take l.i l.held.votes)
