use Rattle.std.proofs.Common.{◌≡◌, ◌++◌, length, map}
use Rattle.dir_values.specs.Numbers.{number_in}
use Rattle.relay_entries.specs.Fields.{methods_in}
use Rattle.vote_entries.proofs.facts.methods_of.Given as goal

abbrev pub invariant-parts : goal.invariant-parts
invariant-parts l = l.methods ++ map number_in l.parts ≡ methods_in l.fn.text

abbrev pub decreases-parts : goal.decreases-parts
decreases-parts l = length l.parts
