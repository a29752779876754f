use Rattle.std.proofs.Common.{inl, inr, arith, subst, Ok, Option}
use Rattle.dirdoc_grammar.{specs.{declared.item.Item.Item, Reading.Reads}, proofs.NextItems.{stops_between, found_open}}
use Rattle.dirdoc_grammar.proofs.front.next_item.Goals as goal

pub returns-in-Open-clause-found : goal.returns-in-Open-clause-found
returns-in-Open-clause-found c =
    found_open c.args.limit c.args.place c.lines.line c.in-Ok-Some-default.field-0-1 c.args.bytes.now c.in-Ok-Some-default.item c.in-Open.stop c.in-Open.last c.lines.invariant (subst (λ (o : Option Item). Reads c.args.limit c.lines.line c.args.bytes.now (Ok (o, c.in-Ok-Some-default.field-0-1))) c.in-Ok-Some-default.field-0-0-is c.in-Ok-Some-default.ensures.read) c.in-Open.ensures.object

pub returns-in-Unterminated-clause-found : goal.returns-in-Unterminated-clause-found
returns-in-Unterminated-clause-found c =
    rw c.between.ensures (stops_between c.args.limit c.args.place c.lines.line c.args.bytes.now c.lines.invariant (inr (c.in-Err.ensures.read.cut c.in-Unterminated.is)))

pub returns-clause-found : goal.returns-clause-found
returns-clause-found c =
    rw c.between-2.ensures (stops_between c.args.limit c.args.place c.lines.line c.args.bytes.now c.lines.invariant (inl (omega (arith, c.lines.invariant.within, c.lines-test.false))))
