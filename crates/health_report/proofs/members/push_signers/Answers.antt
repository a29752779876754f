use Rattle.health_report.{specs.Reports.signer_line, proofs.Loops.{at_place, text_more}}
use Rattle.health_report.proofs.members.push_signers.Goals as goal

pub members-preserved : goal.members-preserved
members-preserved c =
    text_more (signer_line c.args.signers.now) c.members.out.items c.push_signer.new.out.items
    c.identity.result.now _ _ _
    (at_place c.args.members.now c.members.i c.identity.result.now c.identity.ensures) c.in_ok-push_signer.ensures
    c.members.invariant
