use Rattle.std.proofs.Common.{◌≡◌, ◌++◌, length}
use Rattle.list_values.specs.Parts.{parts_of}
use Rattle.list_values.proofs.version_list.parts_in.Given as goal

abbrev pub invariant-parts : goal.invariant-parts
invariant-parts l = l.copies.items ++ l.parts ≡ parts_of l.fn.text

abbrev pub decreases-parts : goal.decreases-parts
decreases-parts l = length l.parts
