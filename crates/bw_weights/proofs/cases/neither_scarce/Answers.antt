use Rattle.std.proofs.{Common.arith, lemmas.Int.to_z-of_z}
use Rattle.bw_weights.proofs.Numerators.{all_but_both, twice_less_two}
use Rattle.bw_weights.proofs.cases.neither_scarce.Goals as goal

pub returns : goal.returns
returns c = grind (arith, to_z-of_z, all_but_both, twice_less_two)
