use Rattle.std.proofs.Common.{arith, rules}
use Rattle.key_port.proofs.Answering.{gives_other}
use Rattle.key_port.proofs.asking.gives.Goals as goal

pub returns-then-ne-clause-others : goal.returns-then-ne-clause-others
returns-then-ne-clause-others g c = λ _ quiet.
    gives_other _ _ (g.S.Source.left c.next_byte.new.source) c.bytes.byte-index c.args.wanted.now c.next_byte.result c.bytes-test.true c.bytes.invariant.taken c.next_byte.ensures.some
    (λ none. c.next_byte.ensures.end none (λ rose. quiet (omega (arith, rose, c.bytes.invariant.faults)))) (search rules)
