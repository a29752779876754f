use Rattle.std.proofs.Common.{length, ◌<◌, sym, arith}
use Rattle.count_terms.{specs.Counts.middle, proofs.Numbers.low_median_there}
use Rattle.field_votes.proofs.medians.low_median_u64.Goals as goal

pub returns : goal.returns
returns c = λ list same.
    let within : middle c.args.sorted.now < length c.args.sorted.now = omega (arith, c.requires.some) in
    sym (low_median_there list c.args.sorted.now same c.requires.ascending within)
