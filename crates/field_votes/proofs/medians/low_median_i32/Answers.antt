use Rattle.std.proofs.{Common.{rules, pos, length, get_or, ◌<◌, sym, ◌∙◌, arith, w32, SFits}, lemmas.Int.to_z-of_z}
use Rattle.count_terms.{specs.Counts.middle, proofs.Numbers.int_median_there}
use Rattle.field_votes.proofs.medians.low_median_i32.Goals as goal

pub returns : goal.returns
returns c = λ list same.
    let within : middle c.args.sorted.now < length c.args.sorted.now = omega (arith, c.requires.some) in
    let value = get_or c.args.sorted.now (middle c.args.sorted.now) (pos 0) in
    let fits : SFits w32 value = search rules in
    to_z-of_z w32 value fits ∙ sym (int_median_there list c.args.sorted.now (pos 0) (pos 0) same c.requires.ascending within)
