use Rattle.std.proofs.Common.{arith}
use Rattle.vote_terms.specs.declared.entry.EntryFacts.{EntryFacts}
use Rattle.relay_select.proofs.Filters.{found_more}
use Rattle.relay_select.proofs.lines.versions.Goals as goal

pub entries-preserved : goal.entries-preserved
entries-preserved c =
    found_more (λ (e : EntryFacts). e.version) c.args.entries.now c.entries.entry-index c.entry-item.result c.entries.lines.items c.push_version.new.lines.items _ (omega arith) c.entry-item.is c.entries.invariant c.v.ensures c.in_ok-push_version.ensures.ok
