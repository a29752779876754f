use Rattle.std.proofs.Common.{◌-◌, refl}
use Rattle.compute_command.{specs.Votes.most_votes, proofs.Arrivals.{is_full, no_room}}
use Rattle.compute_command.proofs.arriving.Arriving.behind.Goals as goal

pub returns-clause-begins : goal.returns-clause-begins
returns-clause-begins c =
    let full = c.is_full.result in
    let count = c.args.votes.count in
    record {
      same = refl;
      rest = c.in_ok-rest.ensures c.args.start (most_votes - count) (no_room full count c.is_full.ensures)
          (is_full full count c.is_full.ensures);
    }
