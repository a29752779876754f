use Rattle.std.proofs.Common.{◌≡◌, refl, sym, inl, ◌∙◌, arith, false}
use Rattle.item_terms.specs.Words.{begins_dash}
use Rattle.dirdoc_grammar.{specs.Seen.seen_item, proofs.ObjectSteps.{one_turn, stops_inside, line_stops, ends_object}}
use Rattle.dirdoc_grammar.proofs.ObjectSteps.{breaks_object}
use Rattle.dirdoc_grammar.proofs.object.lines_of.Goals as goal

pub returns-in-Err-clause-object : goal.returns-in-Err-clause-object
returns-in-Err-clause-object c =
    line_stops c.args.limit c.args.first c.lines.place c.args.bytes.now c.args.words.now c.args.item c.in-Err.fault c.stopped.result c.lines.invariant c.lines-test.true c.in-Err.ensures c.stopped.ensures.fault

pub returns-in-Ok-end_of_object-clause-object : goal.returns-in-Ok-end_of_object-clause-object
returns-in-Ok-end_of_object-clause-object c =
    ends_object c.args.limit c.args.first c.lines.place c.args.bytes.now c.in-Ok.text.now c.args.words.now c.args.item c.in-Ok-end_of_object.whole c.lines.invariant c.lines-test.true c.in-Ok.ensures c.in-Ok-end_of_object.ensures.step c.in-Ok-end_of_object.ensures.after

pub returns-in-Err-end_of_object-clause-object : goal.returns-in-Err-end_of_object-clause-object
returns-in-Err-end_of_object-clause-object c =
    breaks_object c.args.limit c.args.first c.lines.place c.args.bytes.now c.in-Ok.text.now c.args.words.now c.args.item c.in-Err-end_of_object.fault c.lines.invariant c.lines-test.true c.in-Ok.ensures c.in-Err-end_of_object.ensures.step

pub lines-preserved : goal.lines-preserved
lines-preserved c =
    let plain : begins_dash c.in-Ok.text.now ≡ false = sym c.begins_dash.ensures ∙ c.if-begins_dash.false in
    one_turn c.args.limit c.args.first c.lines.place c.args.bytes.now c.in-Ok.text.now c.args.words.now (seen_item c.args.item) c.lines.invariant c.lines-test.true c.in-Ok.ensures plain

pub returns-clause-object : goal.returns-clause-object
returns-clause-object c =
    let within = c.lines.invariant.within in
    stops_inside c.args.limit c.args.first c.lines.place c.args.bytes.now c.args.words.now (seen_item c.args.item) _ _ c.lines.invariant refl refl refl (inl (omega (arith, within, c.lines-test.false)))
