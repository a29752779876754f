use Rattle.std.proofs.Common.{◌≡◌, ◌-◌, ◌≤◌}
use Rattle.field_votes.specs.{Lists.is_listed_number, Private.mask_below}
use Rattle.field_votes.proofs.protocol_votes.listed_mask.Given as goal

abbrev pub invariant-numbers : goal.invariant-numbers
invariant-numbers l = record {
  mask : l.mask ≡ mask_below (is_listed_number l.least l.lists l.name) l.number;
  within : l.number ≤ 64;
}

abbrev pub decreases-numbers : goal.decreases-numbers
decreases-numbers l = 64 - l.number
