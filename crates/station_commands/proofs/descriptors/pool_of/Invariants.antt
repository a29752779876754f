use Rattle.std.proofs.Common.{◌≡◌, ◌≤◌, ◌-◌, length}
use Rattle.key_port.specs.Answers.{rules}
use Rattle.station_commands.proofs.Standing.{HaveBeenKept}
use Rattle.station_commands.proofs.descriptors.pool_of.Given as goal

abbrev pub invariant-descriptors : goal.invariant-descriptors
invariant-descriptors g l = record {
  within : l.place ≤ length l.bytes;
  count : l.number ≤ l.place;
  kept : HaveBeenKept (rules g.V.Verifier.may_accept g.V.Verifier.may_refuse) l.newest l.fn.start l.bytes l.place
      l.number l.pool l.full;
  faults : g.V.Verifier.faults l.verifier ≡ g.V.Verifier.faults l.fn.verifier;
}

abbrev pub decreases-descriptors : goal.decreases-descriptors
decreases-descriptors g l = length l.bytes - l.place
