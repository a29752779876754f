use Rattle.std.proofs.Common.{arith}
use Rattle.mirror_core.proofs.Missing.{done, full, looked_at, no_more_than}
use Rattle.mirror_core.proofs.wanting.wanted.Goals as goal

pub returns-then-len-eq-MOST_WANTED : goal.returns-then-len-eq-MOST_WANTED
returns-then-len-eq-MOST_WANTED c =
    full c.args.shelf.now c.digests.found.items _ _ (omega arith) c.digests.invariant.found

pub digests-preserved : goal.digests-preserved
digests-preserved c = record {
  few = no_more_than c.args.shelf.now c.digests.found.items c.add.new.found.items _ c.digests.invariant.few
      (λ is. omega (arith, is)) c.in_ok-add.ensures;
  found = looked_at c.args.shelf.now c.digests.found.items c.add.new.found.items c.args.digests.now
      c.digests.digest-index _ _ c.digests-test.true c.in_ok-add.ensures c.digests.invariant.found;
}

pub returns : goal.returns
returns c =
    done c.args.shelf.now c.digests.found.items c.args.digests.now c.digests.digest-index _ c.digests.invariant.few
    c.digests-test.false c.digests.invariant.found
