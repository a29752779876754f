use Rattle.std.proofs.Common.{false}
use Rattle.dirdoc_grammar.proofs.{LaterItems.later_at, Cursors.at_stop, Giving.{gives_item, gives_fault, gives_stop}}
use Rattle.dirdoc_grammar.proofs.cursor.Cursor.take_next.Goals as goal

pub returns-in-Whole-clause-takes : goal.returns-in-Whole-clause-takes
returns-in-Whole-clause-takes c =
    let found = c.in-Whole.ensures.found in
    let is = c.requires.at in
    rw c.behind.ensures
    (gives_item c.args.bytes.now c.args.self c.in-Whole.item false is (λ more may. found.0 more) found.1 found.2)

pub returns-in-Fault-clause-takes : goal.returns-in-Fault-clause-takes
returns-in-Fault-clause-takes c =
    let found = c.in-Fault.ensures.found in
    gives_fault c.args.bytes.now c.args.self c.in-Fault.fault false c.requires.at (λ more may. found more)

pub returns-in-Open-clause-takes : goal.returns-in-Open-clause-takes
returns-in-Open-clause-takes c =
    gives_stop c.args.bytes.now c.args.self c.in-Open.stop _ c.requires.at c.in-Open.ensures.found

pub returns-in-Open-clause-at : goal.returns-in-Open-clause-at
returns-in-Open-clause-at c =
    at_stop c.args.bytes.now c.args.self c.in-Open.stop _ c.requires.at c.in-Open.ensures.found

pub returns-in-Open-clause-later : goal.returns-in-Open-clause-later
returns-in-Open-clause-later c =
    later_at c.args.bytes.now c.args.self c.in-Open.stop _ c.requires.at c.in-Open.ensures.found
