use Rattle.period_lock.proofs.lock.Shared.turn.Given as goal

abbrev pub ghosts-count : goal.ghosts-count
ghosts-count g a = record { entry = g.E.Event.entry_of a.before.now.value a.reply.now a.event.now }
