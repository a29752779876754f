use Rattle.std.proofs.Common.{◌≡◌, map, take}
use Rattle.vote_entries.specs.Entries.{micro_in}
use Rattle.vote_entries.proofs.facts.micros_of.Given as goal

abbrev pub invariant-loop-line : goal.invariant-loop-line
invariant-loop-line l = l.micros.items ≡ map (micro_in l.bytes) (take l.line-index l.lines)
