use Rattle.std.proofs.Common.{◌≡◌, ◌++◌, drop}
use Rattle.field_votes.specs.Private.{masks_among}
use Rattle.field_votes.proofs.protocol_votes.listed_protocols.Given as goal

abbrev pub invariant-names : goal.invariant-names
invariant-names l = l.listed.items ++ masks_among l.least l.lists (drop l.name-index l.names) ≡ masks_among l.fn.least l.fn.lists l.fn.names
