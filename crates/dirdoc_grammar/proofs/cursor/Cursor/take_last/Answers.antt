use Rattle.std.proofs.Common.{Ok, subst, Option}
use Rattle.dirdoc_grammar.{specs.{declared.item.Item.Item, Reading.LastOf}, proofs.Giving.{last_item, last_fault}}
use Rattle.dirdoc_grammar.proofs.Giving.{last_none}
use Rattle.dirdoc_grammar.proofs.cursor.Cursor.take_last.Goals as goal

pub returns-in-Ok-Some-clause-takes : goal.returns-in-Ok-Some-clause-takes
returns-in-Ok-Some-clause-takes c =
    rw c.behind.ensures
    (last_item c.args.bytes.now c.args.self c.in-Ok-Some.item c.requires.at (subst (λ (o : Option Item). LastOf c.args.self.limit c.args.self.stop.item c.args.bytes.now (Ok o)) c.in-Ok-Some.field-0-is c.in-Ok-Some.ensures.item))

pub returns-in-Ok-None-clause-takes : goal.returns-in-Ok-None-clause-takes
returns-in-Ok-None-clause-takes c =
    last_none c.args.bytes.now c.args.self c.requires.at (subst (λ (o : Option Item). LastOf c.args.self.limit c.args.self.stop.item c.args.bytes.now (Ok o)) c.in-Ok-None.field-0-is c.in-Ok-None.ensures.item)

pub returns-in-Err-clause-takes : goal.returns-in-Err-clause-takes
returns-in-Err-clause-takes c = last_fault c.args.bytes.now c.args.self c.in-Err.fault c.requires.at c.in-Err.ensures.item
