use Rattle.std.proofs.Common.{◌≡◌, length, map}
use Rattle.list_values.{specs.{Lending.part_numbers, Protocols.range_of}, proofs.ListedRanges.numbers_after}
use Rattle.list_values.proofs.protocol_list.mask_in.Given as goal

abbrev pub invariant-parts : goal.invariant-parts
invariant-parts l = numbers_after l.mask (map range_of l.parts) ≡ part_numbers l.fn.text

abbrev pub decreases-parts : goal.decreases-parts
decreases-parts l = length l.parts
