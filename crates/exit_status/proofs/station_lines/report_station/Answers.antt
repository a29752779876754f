use Rattle.exit_status.proofs.station_lines.report_station.Goals as goal

pub returns-in-OwnCert : goal.returns-in-OwnCert
returns-in-OwnCert g c = rw (c.in-OwnCert.is, ← c.cert_text.ensures) c.write_parts.ensures
