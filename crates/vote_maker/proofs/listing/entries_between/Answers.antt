use Rattle.std.proofs.Common.{rules, ◌≡◌, ◌<◌, ◌++◌, drop, length, arith}
use Rattle.flag_rules.specs.Relays.{ruled_relays}
use Rattle.vote_pool.specs.Kept.{signer_of}
use Rattle.vote_maker.specs.{Listings.judged_relays, Private.{entries_from, entry_if, is_listed, keys_after}}
use Rattle.vote_maker.proofs.EntriesInTurn.{one_more_entry_listed}
use Rattle.vote_maker.proofs.listing.entries_between.Goals as goal

pub relays-preserved : goal.relays-preserved
relays-preserved g c =
    let descriptors = c.args.pool.now.descriptors in
    let judged = judged_relays descriptors (ruled_relays c.args.known.now c.args.rulings.now) c.args.flags.now in
    let i = c.relays.i in
    let d = c.entry-entry.result.now in
    let known = c.known_at.result.now in
    let ruling = c.ruling_at.result in
    let flags = c.flags_at.result.now in
    let keys = c.relays.keys in
    let listed = c.in_ok-listed.listed in
    let out = c.relays.entries.items in
    let within : i < length descriptors = omega arith in
    let its : listed ≡ is_listed keys ruling (signer_of d.identity_ed25519) = search rules in
    let after : c.note_relay.new.keys ≡ keys_after keys ruling (signer_of d.identity_ed25519) = search rules in
    let put : c.push_entry_if.new.out.items ≡ out ++ entry_if c.args.newest listed d known flags = search rules in
    record {
      entries =
          one_more_entry_listed c.args.newest descriptors c.args.known.now c.args.rulings.now c.args.flags.now i d known ruling flags keys
          c.note_relay.new.keys listed out c.push_entry_if.new.out.items
          (entries_from c.args.newest c.args.keys.now (drop c.args.start judged)) within c.requires.many
          c.entry-entry.ensures c.known_at.ensures c.ruling_at.ensures c.flags_at.ensures its after put
          c.relays.invariant.entries;
      within = omega arith;
    }
