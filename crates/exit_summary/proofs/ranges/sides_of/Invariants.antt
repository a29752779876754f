use Rattle.std.proofs.Common.{◌≡◌, not, reverse}
use Rattle.exit_summary.specs.{Policies.accepts_port, PortRanges.ranges_down, Summaries.accepted_ranges}
use Rattle.exit_summary.specs.Summaries.{rejected_ranges}
use Rattle.exit_summary.proofs.ranges.sides_of.Given as goal

abbrev pub invariant-stretches : goal.invariant-stretches
invariant-stretches l = record {
  accepting : ranges_down (accepts_port l.items) l.port (reverse l.accepted.items) ≡ accepted_ranges l.items;
  rejecting : ranges_down (λ port. not (accepts_port l.items port)) l.port (reverse l.rejected.items)
      ≡ rejected_ranges l.items;
}

abbrev pub decreases-stretches : goal.decreases-stretches
decreases-stretches l = l.port
