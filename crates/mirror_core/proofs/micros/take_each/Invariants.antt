use Rattle.std.proofs.Common.{◌≡◌, ◌+◌, ◌<◌, ◌-◌, ◌^◌, length}
use Rattle.mirror_core.specs.{Answers.{no_micros_yet, with_micros}, Tallies.total}
use Rattle.mirror_core.proofs.micros.take_each.Given as goal

-- what came of those so far, and what comes of those that are left, is what comes of all
abbrev pub invariant-micros : goal.invariant-micros
invariant-micros l = record {
  all : with_micros (record { rows = l.shelf; report = l.report }) l.left.items ≡ with_micros (no_micros_yet l.fn.shelf) l.fn.micros.items;
  few : total l.report + length l.left.items < 2 ^ 32 - 1;
}

abbrev pub decreases-micros : goal.decreases-micros
decreases-micros l = length l.left.items
