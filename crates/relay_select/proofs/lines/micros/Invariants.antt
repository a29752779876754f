use Rattle.std.{proofs.Common.{◌≡◌, take}, specs.List.filter_map}
use Rattle.compute_terms.specs.Lines.{micro_with}
use Rattle.relay_select.proofs.lines.micros.Given as goal

abbrev pub invariant-entries : goal.invariant-entries
invariant-entries l = l.digests.items ≡ filter_map (micro_with l.method l.digest) (take l.entry-index l.entries)
