use Rattle.std.proofs.Common.{◌∙◌, Ok, ap, arith}
use Rattle.vote_feed.{specs.declared.machine.Reached.Reached, proofs.Votes.{all_in, more_later, more_so_far, whole_in}}
use Rattle.vote_feed.proofs.taking.take_in.Goals as goal

pub read_on-requires-clause-so_far : goal.read_on-requires-clause-so_far
read_on-requires-clause-so_far c =
    let machine = c.args.machine.now in
    more_so_far c.args.bytes.now.items c.args.part.now c.deref.result.now machine.cursor machine.reader.across
    machine.reader.state machine.kept (c.deref.ensures.value ∙ c.in_ok-extend_from_slice.ensures.items) c.requires.waits

pub read_on-requires-clause-later : goal.read_on-requires-clause-later
read_on-requires-clause-later c =
    let machine = c.args.machine.now in
    more_later c.len-known.result c.args.bytes.now.items c.args.part.now c.deref.result.now machine.cursor
    machine.reader.across machine.reader.state machine.kept (omega (arith, c.len-known.ensures, c.args.bytes.now.ok.0))
    (c.deref.ensures.value ∙ c.in_ok-extend_from_slice.ensures.items) c.requires.waits

pub returns-in-Ok-All-clause-ok : goal.returns-in-Ok-All-clause-ok
returns-in-Ok-All-clause-ok c =
    let machine = c.read_on.new.machine in
    all_in c.len-known.result c.args.bytes.now.items c.args.part.now c.extend_from_slice.new.self.items
    c.deref.result.now machine.cursor machine.reader.across machine.reader.state machine.kept c.read_on.result
    c.in_ok-extend_from_slice.ensures.items c.deref.ensures.value
    (c.in-Ok-All.is ∙ ap (λ (r : Reached). Ok r) c.in-Ok-All.field-0-is) c.read_on.ensures

pub returns-in-Ok-Whole-clause-ok : goal.returns-in-Ok-Whole-clause-ok
returns-in-Ok-Whole-clause-ok c =
    let machine = c.read_on.new.machine in
    whole_in c.len-known.result c.args.bytes.now.items c.args.part.now c.extend_from_slice.new.self.items
    c.deref.result.now c.truncate.new.self.items machine.cursor machine.reader.across machine.reader.state machine.kept
    c.in-Ok-Whole.used c.read_on.result (omega (arith, c.len-known.ensures, c.args.bytes.now.ok.0))
    c.in_ok-extend_from_slice.ensures.items c.deref.ensures.value
    (c.in-Ok-Whole.is ∙ ap (λ (r : Reached). Ok r) c.in-Ok-Whole.field-0-is) c.read_on.ensures c.truncate.ensures.items
