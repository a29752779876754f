use Rattle.std.proofs.{Common.{◌<◌, length, rules, sym, ◌∙◌}, lemmas.List.Elements.All-push}
use Rattle.serve_answers.proofs.{Placing.{place_more, place_less}, places.places.Goals.then-has_one+in_ok-push}
use Rattle.serve_answers.proofs.places.places.Goals.{else-has_one}
use Rattle.serve_answers.proofs.places.places.Goals as goal

pub entries-preserved : goal.entries-preserved
entries-preserved g c =
    let told = rw (c.deref.ensures.value, c.micro_digest.ensures, c.family_digest.ensures) at c.has_one.ensures in
    let inside : c.entries.i < length c.args.pool.now.descriptors = search rules in
    elim c.if-has_one.branch [
      | then-has_one+in_ok-push w ↦ rw (w.places-is, w.in_ok-push.ensures.items) (record {
        within =
            All-push (λ place. place < length c.args.pool.now.descriptors) c.entries.places.items c.entries.i
            c.entries.invariant.within inside;
        value =
            place_more c.in_ok-sorted.sorted.items c.args.digests.now c.in_ok-sorted.ensures.same
            c.args.pool.now.descriptors c.entries.places.items c.entries.i c.entry-entry.result.now
            c.entries.invariant.value inside c.entry-entry.ensures (sym told ∙ w.if-has_one.true);
      })
      | else-has_one w ↦ rw w.places-is (record {
        within = c.entries.invariant.within;
        value =
            place_less c.in_ok-sorted.sorted.items c.args.digests.now c.in_ok-sorted.ensures.same
            c.args.pool.now.descriptors c.entries.places.items c.entries.i c.entry-entry.result.now
            c.entries.invariant.value inside c.entry-entry.ensures (sym told ∙ w.if-has_one.false);
      })
    ]
