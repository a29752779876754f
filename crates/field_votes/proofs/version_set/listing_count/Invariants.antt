use Rattle.std.proofs.Common.{◌≡◌, ◌≤◌, take}
use Rattle.field_votes.specs.Versions as counts
use Rattle.field_votes.proofs.version_set.listing_count.Given as goal

abbrev pub invariant-sets : goal.invariant-sets
invariant-sets l = record {
  count : l.count ≡ counts.listing_count (take l.set-index l.sets) l.text;
  within : l.count ≤ l.set-index;
}
