use Rattle.std.proofs.Common.{◌≡◌, ◌≤◌, ◌++◌, drop}
use Rattle.flag_rules.specs.Relays.{ruled_relays}
use Rattle.vote_maker.specs.{Listings.judged_relays, Private.entries_from}
use Rattle.vote_maker.proofs.listing.entries_between.Given as goal

-- the entries so far, and those of the relays that are left, are those of all from the start on
abbrev pub invariant-relays : goal.invariant-relays
invariant-relays g l =
    let relays = judged_relays l.pool.descriptors (ruled_relays l.known l.rulings) l.flags in
    record {
      entries :
          l.entries.items ++ entries_from l.newest l.keys (drop l.i relays)
          ≡ entries_from l.newest l.fn.keys (drop l.start relays);
      within : l.i ≤ l.end;
    }
