use Rattle.std.proofs.Common.{false, true, arith}
use Rattle.compute_command.proofs.{Rests.open_has_none, Stages.{end_found, fault_ends, open_ends, reads_open}}
use Rattle.compute_command.proofs.Turning.{ends_none}
use Rattle.compute_command.proofs.rest.Rest.finish.Goals as goal

pub returns-then-is_end : goal.returns-then-is_end
returns-then-is_end c =
    λ room bytes is short.
    ends_none c.args.start room bytes (omega (arith, short))
    (end_found bytes c.args.self.tail c.is_end.result true is.tail c.is_end.ensures c.if-is_end.true)

pub vote_fault-requires-clause-none : goal.vote_fault-requires-clause-none
vote_fault-requires-clause-none c =
    open_has_none c.in-Reading.feeder
    (reads_open c.args.start c.args.self 0 c.in-Reading.feeder c.requires c.in-Reading.is)

pub returns-in_ok-vote_fault-in-Reading : goal.returns-in_ok-vote_fault-in-Reading
returns-in_ok-vote_fault-in-Reading c =
    λ room bytes is short.
    open_ends c.args.start c.args.self room bytes is c.in-Reading.feeder c.in_ok-vote_fault-in-Reading.field-0
    c.in-Reading.is (end_found bytes c.args.self.tail c.is_end.result false is.tail c.is_end.ensures c.if-is_end.false)
    c.in_ok-vote_fault-in-Reading.ensures

pub returns-in-Faulted : goal.returns-in-Faulted
returns-in-Faulted c =
    λ room bytes is short.
    fault_ends c.args.start c.args.self room bytes is c.in-Faulted.fault c.in-Faulted.is (omega (arith, short))
    (end_found bytes c.args.self.tail c.is_end.result false is.tail c.is_end.ensures c.if-is_end.false)
