use Rattle.std.proofs.Common.{arith}
use Rattle.compute_terms.specs.Lines.{address_with}
use Rattle.relay_select.proofs.Filters.{found_more}
use Rattle.relay_select.proofs.lines.addresses.Goals as goal

pub entries-preserved : goal.entries-preserved
entries-preserved c =
    found_more (address_with c.args.method c.args.tuple.now) c.args.entries.now c.entries.entry-index c.entry-item.result c.entries.lines.items c.push_text.new.lines.items _ (omega arith) c.entry-item.is c.entries.invariant c.address_with.ensures c.in_ok-push_text.ensures.ok
