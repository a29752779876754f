use Rattle.std.{proofs.Common.{◌≡◌, ◌≤◌, take}, specs.Prelude.count_by}
use Rattle.compute_terms.specs.Identities.{names}
use Rattle.relay_select.proofs.parts.naming.Given as goal

abbrev pub invariant-eds : goal.invariant-eds
invariant-eds l = record {
  count : l.count ≡ count_by (names l.part) (take l.ed-index l.eds);
  within : l.count ≤ l.ed-index;
}
