use Rattle.std.{proofs.Common.{◌≡◌, drop, map}, specs.{List.find, Option.option_map}}
use Rattle.vote_terms.specs.{Entries.gives, declared.entry.MicroFacts.MicroFacts}
use Rattle.vote_entries.specs.Entries.{micro_in}
use Rattle.vote_entries.proofs.entry.micro_for.Given as goal

abbrev pub invariant-loop-line : goal.invariant-loop-line
invariant-loop-line l =
    option_map (λ (line : MicroFacts). line.digest) (find (gives l.method) (map (micro_in l.bytes) (drop l.line-index l.micros)))
    ≡ option_map (λ (line : MicroFacts). line.digest) (find (gives l.method) (map (micro_in l.bytes) l.micros))
