use Rattle.std.proofs.Common.{rules}
use Rattle.key_port.proofs.{Answering.has_come, SignedWords.{hears_line, hears_no_line}}
use Rattle.key_port.proofs.signing.hear_signature.Goals as goal

pub returns-then-read_line-clause-exact : goal.returns-then-read_line-clause-exact
returns-then-read_line-clause-exact g c = λ _.
    hears_line (g.S.Source.left c.args.source.now) (g.S.Source.left c.read_line.new.source) c.read_line.new.line _
    c.read_line.ensures.taken (c.read_line.ensures.ended c.if-read_line.true)
    (rw (← c.as_bytes.ensures) c.signature_of.ensures.given)

pub returns-then-is_empty-clause-exact : goal.returns-then-is_empty-clause-exact
returns-then-is_empty-clause-exact g c = λ quiet.
    hears_no_line (g.S.Source.left c.args.source.now) (c.read_line.ensures.others c.if-read_line.false quiet)

pub returns-clause-exact : goal.returns-clause-exact
returns-clause-exact g c = λ quiet.
    hears_no_line (g.S.Source.left c.args.source.now) (c.read_line.ensures.others c.if-read_line.false quiet)

pub returns-clause-comes : goal.returns-clause-comes
returns-clause-comes g c =
    has_come (g.S.Source.left c.args.source.now) (g.S.Source.left c.read_line.new.source) c.read_line.new.line
    c.read_line.ensures.taken (search rules)
