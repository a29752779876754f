use Rattle.exit_status.proofs.bandwidth_lines.report_bandwidth.Goals as goal

pub returns-in-Old : goal.returns-in-Old
returns-in-Old g c =
    rw (c.in-Old.is, ← c.format-time.ensures.text, ← c.as_bytes.ensures.value) c.write_parts.ensures
