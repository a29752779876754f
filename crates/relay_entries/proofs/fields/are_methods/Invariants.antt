use Rattle.std.{proofs.Common.{◌≡◌, length}, specs.{Prelude.is_some, List.list_all}}
use Rattle.dir_values.specs.Numbers.{number_of}
use Rattle.relay_entries.specs.Fields.{are_methods}
use Rattle.relay_entries.proofs.fields.are_methods.Given as goal

abbrev pub invariant-parts : goal.invariant-parts
invariant-parts l = list_all (λ part. is_some (number_of part)) l.parts ≡ are_methods l.fn.text

abbrev pub decreases-parts : goal.decreases-parts
decreases-parts l = length l.parts
