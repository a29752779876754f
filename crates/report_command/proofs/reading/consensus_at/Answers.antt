use Rattle.std.proofs.Common.{arith, subst}
use Rattle.frame_terms.specs.{declared.fault.ReadRefusal.ReadRefusal, Refusals.Fails}
use Rattle.consensus_doc.specs.Reading.{consensus_of}
use Rattle.document_faults.proofs.DocumentFaults.{consensus_within}
use Rattle.report_command.proofs.reading.consensus_at.Goals as goal

pub fault_behind-requires : goal.fault_behind-requires
fault_behind-requires c =
    let bytes = c.args.bytes.now in
    let fails =
    subst (λ (why : ReadRefusal). Fails why (consensus_of bytes)) c.in-Err-Frame.field-0-is c.in-Err-Frame.ensures.consensus in
    omega (arith, consensus_within bytes c.in-Err-Frame.fault fails, c.requires.behind)
