use Rattle.std.proofs.Common.{◌≡◌, ◌++◌}
use Rattle.bandwidth_file.proofs.relays.Relays.rows.Given as goal

abbrev pub invariant-loop-identity : goal.invariant-loop-identity
invariant-loop-identity l = l.rows.items ++ l.identity-iterator ≡ l.fn.self
