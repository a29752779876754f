use Rattle.std.proofs.Common.{subst}
use Rattle.list_values.{specs.Maps.Ascend, proofs.ListedProtocols.listed_ascend}
use Rattle.list_values.proofs.proto_ranges.ProtoRanges.len.Goals as goal

pub returns-clause-ascending : goal.returns-clause-ascending
returns-clause-ascending c = subst Ascend c.self.view_is (listed_ascend c.self.inside.items.items c.self.invariant)
