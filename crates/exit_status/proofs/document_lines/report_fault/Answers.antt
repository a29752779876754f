use Rattle.exit_status.proofs.document_lines.report_fault.Goals as goal

pub returns-in-Missing : goal.returns-in-Missing
returns-in-Missing g c = rw (c.in-Missing.is, ← c.text.ensures) c.report_at.ensures
