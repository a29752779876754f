use Rattle.std.proofs.Common.{sym}
use Rattle.dir_bytes.proofs.Symbols.{base64_if_filled, none_if_fewer, none_if_refused}
use Rattle.dir_bytes.proofs.digests.read_base64.Goals as goal

pub returns-then-count-wanted-clause-ok : goal.returns-then-count-wanted-clause-ok
returns-then-count-wanted-clause-ok c =
    base64_if_filled c.args.text.now c.args.out.now c.decode_slice.new.output c.in-Ok.count (sym c.in-Ok.ensures.value) c.if-count-wanted.true c.in-Ok.ensures.written

pub returns-else-count-wanted-clause-err : goal.returns-else-count-wanted-clause-err
returns-else-count-wanted-clause-err c = none_if_fewer c.args.text.now c.args.out.now c.in-Ok.count (sym c.in-Ok.ensures.value) c.if-count-wanted.false

pub returns-in-Err-clause-err : goal.returns-in-Err-clause-err
returns-in-Err-clause-err c = none_if_refused c.args.text.now c.args.out.now c.in-Err.field-0 (sym c.in-Err.ensures.value)
