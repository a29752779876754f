use Rattle.std.proofs.Common.{rules, ◌≡◌, sym, subst, true, List}
use Rattle.dir_values.specs.{declared.port_range.PortRange.PortRange, Ports.are_ranges}
use Rattle.exit_summary.{specs.Summaries.{most_behind_word, ranges_fitting}, proofs.Fitting.fitting_ranges}
use Rattle.exit_summary.proofs.summaries.cut.Goals as goal

pub new-requires : goal.new-requires
new-requires c =
    let ranges = c.args.summary.ranges in
    let kept : c.truncate.new.self.items ≡ ranges_fitting most_behind_word ranges = search rules in
    subst (λ (l : List PortRange). are_ranges l ≡ true) (sym kept) (fitting_ranges ranges (search rules))
