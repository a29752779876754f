use Rattle.std.proofs.Common.{◌≡◌, map, take}
use Rattle.vote_entries.specs.Entries.{entry_in}
use Rattle.vote_entries.proofs.rows.Rows.facts.Given as goal

abbrev pub invariant-loop-i : goal.invariant-loop-i
invariant-loop-i l = l.facts.items ≡ take l.i (map (entry_in l.bytes) l.self)
