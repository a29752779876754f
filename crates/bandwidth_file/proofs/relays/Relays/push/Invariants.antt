use Rattle.std.{proofs.Common.{◌≡◌, ◌++◌}, specs.List.flat_map}
use Rattle.bandwidth_file.specs.Texts.{relay_text}
use Rattle.bandwidth_file.proofs.relays.Relays.push.Given as goal

abbrev pub invariant-loop-identity : goal.invariant-loop-identity
invariant-loop-identity l = l.out.items ++ flat_map relay_text l.identity-iterator ≡ l.fn.out.items ++ flat_map relay_text l.fn.self
