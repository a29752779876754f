use Rattle.std.{proofs.Common.{◌≡◌, length}, specs.List.slice_split}
use Rattle.dir_values.{specs.Ports.{range_list, is_comma}, proofs.PortParts.ranges_after}
use Rattle.dir_values.proofs.port_list.range_list.Given as goal

abbrev pub invariant-parts : goal.invariant-parts
invariant-parts l = ranges_after l.next l.ranges.items (slice_split is_comma l.left) ≡ range_list l.fn.text

abbrev pub decreases-parts : goal.decreases-parts
decreases-parts l = length l.left
