use Rattle.std.proofs.Common.{◌≡◌, ◌<◌, sym, refl, ap, false, drop, length, ◌∙◌, arith}
use Rattle.item_terms.specs.Words.{begins_dash}
use Rattle.dirdoc_grammar.{specs.Seen.seen_item, proofs.{FirstLine.whole_rest, LineSteps.no_object}}
use Rattle.dirdoc_grammar.proofs.ObjectSteps.{object_found, begin_found, item_waits}
use Rattle.dirdoc_grammar.proofs.object.with_object.Goals as goal

pub returns-then-begin-bytes-clause-object : goal.returns-then-begin-bytes-clause-object
returns-then-begin-bytes-clause-object c = item_waits c.args.limit c.args.bytes.now c.args.item _ c.if-begin-bytes.true refl refl

pub returns-then-not-begins_dash-clause-object : goal.returns-then-not-begins_dash-clause-object
returns-then-not-begins_dash-clause-object c =
    let dash : begins_dash (drop c.args.item.after c.args.bytes.now) ≡ false = ap begins_dash (sym (whole_rest c.args.item.after c.args.bytes.now)) ∙ sym c.begins_dash.ensures ∙ c.if-not-begins_dash.true in
    let inside : c.args.item.after < length c.args.bytes.now = omega (arith, c.if-begin-bytes.false, c.requires.inside) in
    (λ more. no_object c.args.limit c.args.item.after c.args.bytes.now more (seen_item c.args.item) inside dash, omega arith, c.requires.inside)

pub returns-in-Ok-clause-object : goal.returns-in-Ok-clause-object
returns-in-Ok-clause-object c =
    object_found c.args.limit c.args.bytes.now c.in-Ok.words.now c.args.item c.in-Ok.first c.lines_of.result (c.in-Ok.ensures.0 (seen_item c.args.item)) c.in-Ok.ensures.1 c.lines_of.ensures.object

pub returns-in-Err-clause-object : goal.returns-in-Err-clause-object
returns-in-Err-clause-object c =
    begin_found c.args.limit c.args.bytes.now c.args.item c.in-Err.fault c.stopped.result (c.in-Err.ensures (seen_item c.args.item)) c.requires.inside c.stopped.ensures.fault
