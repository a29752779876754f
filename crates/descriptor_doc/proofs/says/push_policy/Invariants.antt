use Rattle.std.proofs.Common.{◌≡◌, ◌++◌, drop, filter_map, length, take}
use Rattle.descriptor_doc.specs.Saying.{policy_if}
use Rattle.descriptor_doc.proofs.says.push_policy.Given as goal

abbrev pub invariant-loop-one : goal.invariant-loop-one
invariant-loop-one l = record {
  same : l.out ++ filter_map policy_if (drop l.one-index l.taken) ≡ l.fn.out ++ filter_map policy_if l.taken;
  front : take (length l.fn.out) l.out ≡ l.fn.out;
}
