use Rattle.std.{proofs.Common.{◌≡◌, length, map, nat_eq}, specs.List.list_any}
use Rattle.dir_values.specs.Numbers.{number_in}
use Rattle.relay_entries.specs.Fields.{methods_in}
use Rattle.vote_entries.proofs.entry.lists.Given as goal

abbrev pub invariant-parts : goal.invariant-parts
invariant-parts l =
    list_any (λ other. nat_eq other l.method) (map number_in l.parts) ≡ list_any (λ other. nat_eq other l.method) (methods_in l.fn.text)

abbrev pub decreases-parts : goal.decreases-parts
decreases-parts l = length l.parts
