use Rattle.exit_status.proofs.station_lines.report_descriptor.Goals as goal

pub returns : goal.returns
returns g c = rw (← c.format-k.ensures.text, ← c.as_bytes.ensures.value, ← c.descriptor_text.ensures) c.write_parts.ensures
