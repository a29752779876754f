use Rattle.std.proofs.Common.{drop, arith}
use Rattle.tcp_edge.proofs.Pieces.{piece_comes}
use Rattle.tcp_edge.proofs.arrived.ArrivedSourceSource.read.Goals as goal

pub returns-then-count-gt0-clause-bytes : goal.returns-then-count-gt0-clause-bytes
returns-then-count-gt0-clause-bytes c =
    piece_comes c.args.self.now.bytes.items c.rest-rest.result.now c.copy_from_slice.new.self
    (drop c.min-count.result c.args.out.now) c.args.self.now.place c.min-count.result c.rest-rest.ensures
    c.copy_from_slice.ensures.after (omega (arith, c.min-count.ensures))
