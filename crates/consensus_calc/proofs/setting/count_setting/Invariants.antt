use Rattle.std.proofs.Common.{◌≡◌, ◌≤◌, ℕ, take, map, slice_index}
use Rattle.compute_terms.specs.{Listings.listings_at, RelayFlags.setting_count}
use Rattle.consensus_calc.proofs.setting.count_setting.Given as goal

abbrev pub invariant-members : goal.invariant-members
invariant-members l = record {
  counts : l.counts.items ≡ map (setting_count (listings_at l.votes.votes (take l.at-index l.members))) l.known;
  few : (k : ℕ) → slice_index l.counts.items k ≤ l.at-index;
}
