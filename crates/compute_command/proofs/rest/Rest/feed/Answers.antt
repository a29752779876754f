use Rattle.std.proofs.Common.{ℕ, List, IfOk, length}
use Rattle.compute_command.{specs.Rests.Turns, proofs.Stages.{fault_goes_on, reading_goes, reads_open}}
use Rattle.compute_command.proofs.rest.Rest.feed.Goals as goal

pub read_on-requires-clause-open_ : goal.read_on-requires-clause-open_
read_on-requires-clause-open_ c =
    reads_open c.args.start c.args.self (length c.args.piece.now) c.in-Reading.feeder c.requires c.in-Reading.is

pub returns-in-Reading : goal.returns-in-Reading
returns-in-Reading c =
    λ room bytes is short.
    reading_goes c.args.start c.args.self room bytes is
    (λ (n : ℕ) (l : List ℕ). IfOk c.read_on.result (λ turn. Turns c.args.start n l c.args.piece.now turn))
    c.in-Reading.feeder c.in-Reading.is c.read_on.ensures

pub returns-in-Faulted : goal.returns-in-Faulted
returns-in-Faulted c =
    λ room bytes is short.
    fault_goes_on c.args.start c.args.self room bytes is c.in-Faulted.fault c.args.piece.now c.on.result c.in-Faulted.is
    c.on.ensures
