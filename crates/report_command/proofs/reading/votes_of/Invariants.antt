use Rattle.std.proofs.Common.{◌≡◌, ◌≤◌, ◌+◌, length, vec_len}
use Rattle.report_command.specs.Inputs.{votes_from, votes_of, with_front}
use Rattle.report_command.proofs.reading.votes_of.Given as goal

abbrev pub invariant-votes : goal.invariant-votes
invariant-votes l = record {
  within : l.place ≤ length l.bytes;
  room : vec_len l.found + l.room ≡ 64;
  read : with_front l.found.items (votes_from l.room l.place l.bytes) ≡ votes_of l.bytes;
}

abbrev pub decreases-votes : goal.decreases-votes
decreases-votes l = l.room
