use Rattle.std.proofs.Common.{◌≡◌, take, map}
use Rattle.compute_terms.specs.Tuples.{tuple_of}
use Rattle.relay_select.proofs.tuple.tuples.Given as goal

abbrev pub invariant-entries : goal.invariant-entries
invariant-entries l = l.tuples.items ≡ map tuple_of (take l.entry-index l.entries)
