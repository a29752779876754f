use Rattle.std.proofs.Common.{◌≡◌}
use Rattle.tcp_edge.proofs.tcp_link.TcpLink.forget.Given as goal

abbrev pub invariant-loop : goal.invariant-loop
invariant-loop g l = l.self.faults ≡ l.fn.self.faults
