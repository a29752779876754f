use Rattle.exit_summary.proofs.Cuts.{cuts}
use Rattle.exit_summary.proofs.laws.cuts_are_longest.Goals as goal

pub returns : goal.returns
returns c = cuts
