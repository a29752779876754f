use Rattle.std.{proofs.Common.{◌≡◌, take}, specs.List.filter_map}
use Rattle.vote_terms.specs.declared.entry.EntryFacts.{EntryFacts}
use Rattle.relay_select.proofs.lines.versions.Given as goal

abbrev pub invariant-entries : goal.invariant-entries
invariant-entries l = l.lines.items ≡ filter_map (λ (e : EntryFacts). e.version) (take l.entry-index l.entries)
