use Rattle.std.proofs.Common.{arith}
use Rattle.vote_terms.specs.Entries.{measured_of}
use Rattle.relay_select.proofs.Filters.{found_more}
use Rattle.consensus_calc.proofs.bandwidth.measured.Goals as goal

pub entries-preserved : goal.entries-preserved
entries-preserved c =
    found_more measured_of c.args.entries.now c.entries.entry-index c.entry-item.result c.entries.values.items c.push_if.new.values.items _ (omega arith) c.entry-item.is c.entries.invariant c.measured.ensures c.in_ok-push_if.ensures.ok
