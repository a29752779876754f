use Rattle.std.proofs.Common.{◌∙◌, ℕ, Option, Ok, ap}
use Rattle.vote_feed.proofs.{Going.late_on, Votes.{all_comes, fault_comes, item_taken, whole_comes}}
use Rattle.vote_feed.proofs.machine.read_on.Goals as goal

pub items-preserved : goal.items-preserved
items-preserved c =
    let old = c.items.machine in
    let new = c.take-in-Item.new.self in
    record {
      so_far =
          item_taken c.args.bytes.now old.cursor c.take.new.self c.in-Item.item old.reader.across new.across
          old.reader.state new.state old.kept c.take-in-Item.new.facts c.take-in-Item.result
          (c.in-Ok-None.is ∙ ap (λ (o : Option ℕ). Ok o) c.in-Ok-None.field-0-is)
          c.items.invariant.so_far c.in-Item.ensures.at c.in-Item.ensures.limit c.in-Item.ensures.takes
          c.take-in-Item.ensures;
      late =
          late_on c.args.known c.args.bytes.now old.cursor c.take.new.self c.in-Item.item c.items.invariant.late
          c.in-Item.ensures.takes;
    }

pub returns-in-Ok-Some : goal.returns-in-Ok-Some
returns-in-Ok-Some c =
    let old = c.items.machine in
    let new = c.take-in-Item.new.self in
    whole_comes c.args.known c.args.bytes.now old.cursor c.take.new.self c.in-Item.item old.reader.across
    new.across old.reader.state new.state old.kept c.take-in-Item.new.facts c.in-Ok-Some.used c.take-in-Item.result
    (c.in-Ok-Some.is ∙ ap (λ (o : Option ℕ). Ok o) c.in-Ok-Some.field-0-is)
    c.items.invariant.so_far c.items.invariant.late c.in-Item.ensures.takes c.take-in-Item.ensures

pub returns-in-Fault : goal.returns-in-Fault
returns-in-Fault c =
    let old = c.items.machine in
    rw c.from.ensures
    (fault_comes c.args.bytes.now old.cursor c.take.new.self old.reader.across old.reader.state old.kept
    c.in-Fault.fault
    c.items.invariant.so_far c.in-Fault.ensures.takes)

pub returns-in-NotYet : goal.returns-in-NotYet
returns-in-NotYet c =
    let old = c.items.machine in
    all_comes c.args.bytes.now old.cursor c.take.new.self old.reader.across old.reader.state old.kept c.take.result
    c.in-NotYet.is c.items.invariant.so_far c.take.ensures.at c.take.ensures.limit c.take.ensures.takes
    c.take.ensures.later
