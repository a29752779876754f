use Rattle.std.proofs.Common.{rules, ◌∙◌, sym, ap, ◌+◌, ◌-◌, arith, true, false}
use Rattle.descriptor_frame.{specs.Certificates.signer_in, proofs.Signers.{one_more_extension_passed, no_more, at_end}}
use Rattle.descriptor_frame.proofs.extensions.signer_in.Goals as goal

pub returns-in-None : goal.returns-in-None
returns-in-None c =
    sym (no_more c.args.count c.loop-i.i c.loop-i.signer c.loop-i.rest.now c.loop-i-test.true (search rules))
    ∙ c.loop-i.invariant

pub loop-i-preserved : goal.loop-i-preserved
loop-i-preserved c =
    let next = c.in-Some.next in
    ap (signer_in (c.args.count - (c.loop-i.i + 1)) next) c.behind_first-rest.ensures
    ∙ sym (one_more_extension_passed c.args.count c.loop-i.i c.loop-i.signer next c.loop-i.rest.now c.loop-i-test.true (search rules))
    ∙ c.loop-i.invariant

pub returns-then-is_empty : goal.returns-then-is_empty
returns-then-is_empty c =
    let past = c.loop-i-test.false in
    sym (at_end c.args.count c.loop-i.i c.loop-i.signer c.loop-i.rest.now true (omega (arith, past)) (search rules))
    ∙ c.loop-i.invariant

pub returns-else-is_empty : goal.returns-else-is_empty
returns-else-is_empty c =
    let past = c.loop-i-test.false in
    sym (at_end c.args.count c.loop-i.i c.loop-i.signer c.loop-i.rest.now false (omega (arith, past)) (search rules))
    ∙ c.loop-i.invariant
