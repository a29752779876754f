use Rattle.std.proofs.Common.{◌≡◌, ◌++◌, drop, filter_map}
use Rattle.descriptor_frame.specs.Families.{member_of}
use Rattle.descriptor_frame.proofs.family.members_of.Given as goal

abbrev pub invariant-loop-name : goal.invariant-loop-name
invariant-loop-name l =
    l.members.items ++ filter_map member_of (drop l.name-index l.names) ≡ filter_map member_of l.names
