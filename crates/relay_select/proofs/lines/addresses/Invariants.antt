use Rattle.std.{proofs.Common.{◌≡◌, take}, specs.List.filter_map}
use Rattle.compute_terms.specs.Lines.{address_with}
use Rattle.relay_select.proofs.lines.addresses.Given as goal

abbrev pub invariant-entries : goal.invariant-entries
invariant-entries l = l.lines.items ≡ filter_map (address_with l.method l.tuple) (take l.entry-index l.entries)
