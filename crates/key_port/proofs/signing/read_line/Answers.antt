use Rattle.std.proofs.Common.{arith, rules}
use Rattle.key_port.{specs.Requests.line_limit, proofs.SignedWords.{ends_early, is_too_long}}
use Rattle.key_port.proofs.signing.read_line.Goals as goal

pub returns-in_default-clause-others : goal.returns-in_default-clause-others
returns-in_default-clause-others g c = λ _ quiet.
    ends_early line_limit (g.S.Source.left c.args.source.now) (g.S.Source.left c.bytes.source) c.bytes.line c.bytes.invariant.taken
    (c.next_byte.ensures.end c.in_default.is (λ rose. quiet (omega (arith, rose, c.bytes.invariant.faults)))) c.bytes.invariant.one_line

pub returns-clause-others : goal.returns-clause-others
returns-clause-others g c = λ _ _.
    is_too_long line_limit (g.S.Source.left c.args.source.now) (g.S.Source.left c.bytes.source) c.bytes.line c.bytes.invariant.taken
    (search rules) c.bytes.invariant.one_line
