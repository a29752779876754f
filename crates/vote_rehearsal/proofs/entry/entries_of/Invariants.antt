use Rattle.std.proofs.Common.{◌≡◌, take}
use Rattle.vote_rehearsal.specs.Entries.{entries_of}
use Rattle.vote_rehearsal.proofs.entry.entries_of.Given as goal

abbrev pub invariant-relays : goal.invariant-relays
invariant-relays l = l.found.items ≡ entries_of (take l.relay-index l.relays) l.authority
