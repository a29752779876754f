use Rattle.std.proofs.Common.{◌≡◌, ◌-◌, ◌*◌, length, take}
use Rattle.descriptor_frame.{specs.Fields.groups_of, proofs.Groups.groups_behind_bytes}
use Rattle.descriptor_frame.proofs.fields.groups_of.Given as goal

abbrev pub invariant-groups : goal.invariant-groups
invariant-groups l = record {
  same : groups_behind_bytes (take (2 * l.i) l.bytes) (groups_of (10 - l.i) l.item l.arguments)
      ≡ groups_of 10 l.fn.item l.fn.arguments;
  twenty : length l.bytes ≡ 20;
}
