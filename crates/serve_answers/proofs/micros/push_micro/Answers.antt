use Rattle.std.proofs.Common.{rules}
use Rattle.serve_answers.proofs.Placing.{found_here, not_here}
use Rattle.serve_answers.proofs.micros.push_micro.Goals as goal

pub returns-then-has_digest : goal.returns-then-has_digest
returns-then-has_digest g c =
    found_here c.args.pool.now.descriptors c.args.places.now c.micros.place-index c.entry-entry.result.now
    c.micros-test.true (c.requires c.micros.place-index 0 c.micros-test.true) c.entry-entry.ensures c.args.asked.now _
    c.micros.invariant.ahead _ _ _ _ (search rules) c.micros.invariant.same c.text_with.ensures
    c.in_ok-extend_from_slice.ensures.items

pub micros-preserved : goal.micros-preserved
micros-preserved g c = record {
  same = c.micros.invariant.same;
  ahead =
      not_here c.args.pool.now.descriptors c.args.places.now c.micros.place-index c.entry-entry.result.now
      c.micros-test.true (c.requires c.micros.place-index 0 c.micros-test.true) c.entry-entry.ensures
      c.args.asked.now _ c.micros.invariant.ahead (search rules);
}
