use Rattle.std.{proofs.Common.{◌≡◌, drop}, specs.{Prelude.is_some, List.list_any}}
use Rattle.vote_terms.specs.{declared.entry.EntryFacts.EntryFacts, Entries.measured_of}
use Rattle.compute_terms.specs.Bandwidths.{measures}
use Rattle.consensus_calc.proofs.bandwidth.measures.Given as goal

abbrev pub invariant-entries : goal.invariant-entries
invariant-entries l = list_any (λ (e : EntryFacts). is_some (measured_of e)) (drop l.i l.vote.says.entries) ≡ measures l.vote
