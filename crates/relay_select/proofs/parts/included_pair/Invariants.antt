use Rattle.std.{proofs.Common.{◌≡◌, drop}, specs.List.{find, filter_map}}
use Rattle.compute_terms.specs.Identities.{part_in, includes}
use Rattle.relay_select.proofs.parts.included_pair.Given as goal

abbrev pub invariant-eds : goal.invariant-eds
invariant-eds l = find (includes l.roster l.eds) (filter_map part_in (drop l.ed-index l.eds)) ≡ find (includes l.roster l.eds) (filter_map part_in l.eds)
