use Rattle.std.proofs.Common.{◌≡◌, ◌≤◌, ◌-◌, ◌++◌, drop, length}
use Rattle.std.specs.FinSet as set
use Rattle.flag_rules.specs.Relays.{ruled_relays}
use Rattle.vote_maker.specs.{Listings.judged_relays, Private.{entries_from, entries_text, front_text}}
use Rattle.vote_maker.proofs.parts.push_entries_of.Given as goal

-- the text so far, and that of the entries of the relays that are left, is that of all; around them the vote says the same
abbrev pub invariant-parts : goal.invariant-parts
invariant-parts g l =
    let relays = judged_relays l.pool.descriptors (ruled_relays l.known l.rulings) l.flags in
    record {
      text :
          l.out.items ++ entries_text (entries_from l.newest l.keys (drop l.place relays))
          ≡ l.fn.out.items ++ entries_text (entries_from l.newest set.empty relays);
      around : front_text l.facts l.certificate ≡ l.fn.out.items;
      within : l.place ≤ length l.pool.descriptors;
    }

abbrev pub decreases-parts : goal.decreases-parts
decreases-parts g l = length l.pool.descriptors - l.place
