use Rattle.std.proofs.Common.{arith}
use Rattle.dir_http.proofs.Arrivals.{past_the_limit}
use Rattle.dir_http.proofs.arrival.missing.Goals as goal

pub returns-in-Open-2-clause-settled : goal.returns-in-Open-2-clause-settled
returns-in-Open-2-clause-settled c =
    λ none. past_the_limit c.args.bytes.now c.in-Open-2.ensures (omega (arith, c.if-bytes-lt-HEAD_LIMIT.false))
