use Rattle.std.proofs.Common.{◌-◌, length}
use Rattle.vote_feed.{specs.Lending.VoteSoFar, proofs.Going.Late}
use Rattle.vote_feed.proofs.machine.read_on.Given as goal

abbrev pub invariant-items : goal.invariant-items
invariant-items l = record {
  so_far : VoteSoFar l.bytes l.machine.cursor l.machine.reader.across l.machine.reader.state l.machine.kept;
  late : Late l.known l.bytes l.machine.cursor;
}

abbrev pub decreases-items : goal.decreases-items
decreases-items l = length l.bytes - l.machine.cursor.place
