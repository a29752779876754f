use Rattle.std.{proofs.Common.{◌≡◌, ◌≤◌, ◌-◌, ℕ, List, length}, specs.Io.KnownBytes.Consumes}
use Rattle.dir_http.specs.Requests.{body_ahead}
use Rattle.lone_vote.specs.Coming.{HasCome}
use Rattle.lone_vote.proofs.reading.read_vote.Given as goal

abbrev pub invariant-pieces : goal.invariant-pieces
invariant-pieces g l = record {
  bytes : List ℕ;
  known : HasCome bytes l.vote;
  taken : Consumes (body_ahead 0 l.head (g.S.Source.left l.fn.source))
      (body_ahead l.reader.given l.head (g.S.Source.left l.source)) bytes;
  counted : length bytes ≡ l.reader.given;
  within : l.reader.given ≤ l.head.length;
  faults : g.S.Source.faults l.source ≡ g.S.Source.faults l.fn.source;
}

abbrev pub decreases-pieces : goal.decreases-pieces
decreases-pieces g l = l.head.length - l.reader.given
