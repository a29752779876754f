use Rattle.std.{proofs.Common.{◌≡◌, ℕ, take, map}, specs.Global.Vec}
use Rattle.compute_terms.specs.Methods.{listed_methods}
use Rattle.consensus_calc.proofs.methods.listed_methods.Given as goal

abbrev pub invariant-votes : goal.invariant-votes
invariant-votes l = map (λ (list : Vec ℕ). list.items) l.lists.items ≡ listed_methods (take l.i l.votes.votes)
