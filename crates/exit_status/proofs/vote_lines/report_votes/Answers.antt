use Rattle.exit_status.proofs.vote_lines.report_votes.Goals as goal

pub returns-in-Vote : goal.returns-in-Vote
returns-in-Vote g c = rw (c.in-Vote.is, ← c.format-k.ensures.text, ← c.as_bytes.ensures.value, ← c.word_text.ensures) c.write_parts.ensures

pub returns-in-TooFew : goal.returns-in-TooFew
returns-in-TooFew g c = rw (c.in-TooFew.is, ← c.format-count.ensures.text, ← c.format-members.ensures.text, ← c.as_bytes-in-TooFew.ensures.value, ← c.as_bytes-in-TooFew-2.ensures.value) c.write_parts-in-TooFew.ensures
