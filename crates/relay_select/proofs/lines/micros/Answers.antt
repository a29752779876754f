use Rattle.std.proofs.Common.{arith}
use Rattle.compute_terms.specs.Lines.{micro_with}
use Rattle.relay_select.proofs.Filters.{found_more}
use Rattle.relay_select.proofs.lines.micros.Goals as goal

pub entries-preserved : goal.entries-preserved
entries-preserved c =
    found_more (micro_with c.args.method c.args.digest) c.args.entries.now c.entries.entry-index c.entry-item.result c.entries.digests.items c.push_micro.new.digests.items _ (omega arith) c.entry-item.is c.entries.invariant c.micro_with.ensures c.in_ok-push_micro.ensures.ok
