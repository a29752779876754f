use Rattle.exit_status.proofs.parts.report_at.Goals as goal

pub returns : goal.returns
returns g c = rw (← c.format-at.ensures.text, ← c.as_bytes.ensures.value) c.write_parts.ensures
