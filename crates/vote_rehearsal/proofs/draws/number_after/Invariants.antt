use Rattle.std.proofs.Common.{◌≡◌, ◌≤◌, ◌-◌}
use Rattle.vote_rehearsal.specs.Draws.{number_after}
use Rattle.vote_rehearsal.proofs.draws.number_after.Given as goal

abbrev pub invariant-draws : goal.invariant-draws
invariant-draws l = record {
  within : l.done ≤ l.draws;
  last_is : l.last ≡ number_after l.number l.done;
}

abbrev pub decreases-draws : goal.decreases-draws
decreases-draws l = l.draws - l.done
