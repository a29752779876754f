use Rattle.std.{proofs.Common.{◌≡◌, ◌+◌, ap, ◌∙◌}, specs.Prelude.if◌then◌else◌}
use Rattle.std.specs.FinSet as set
use Rattle.vote_rehearsal.specs.{Draws.number_after, Private.{Known, is_new}, Relays.{relay_at, relay_of, with_relay}}
use Rattle.vote_rehearsal.{specs.declared.relay.Relay.Relay, proofs.Drawing.{first_start, next_start}}
use Rattle.vote_rehearsal.proofs.KnownRelays.{more_identities, more_keys, more_listed, no_identities, no_keys}
use Rattle.vote_rehearsal.proofs.listing.relay_map.Goals as goal

pub relays-init : goal.relays-init
relays-init c = record {
  start_is = first_start c.args.seed c.args.authorities;
  identities_are = λ key. ap (λ (k : Known). set.contains k key) c.new-identities.ensures ∙ no_identities key;
  keys_are = λ key. ap (λ (k : Known). set.contains k key) c.new-keys.ensures ∙ no_keys key;
  listed_are = c.new-listed.ensures.empty;
}

pub relays-preserved : goal.relays-preserved
relays-preserved c =
    let seed = c.args.seed in
    let authorities = c.args.authorities in
    let n = c.relays.number in
    let before = c.relays.invariant in
    let identities = c.relays.identities in
    let keys = c.relays.keys in
    let old = c.relays.listed.entries in
    let new = c.in_ok-new.new in
    let its : c.in_ok-relay.relay ≡ relay_of seed authorities n =
    c.in_ok-relay.ensures ∙ ap (λ s. relay_at seed n s) before.start_is in
    record {
      start_is =
          c.number_after-start.ensures ∙ ap (λ s. number_after s (authorities + 1)) before.start_is
          ∙ next_start seed authorities n;
      identities_are =
          more_identities seed authorities n identities c.note_relay.new.identities
          (c.in_ok-new.ensures.identities ∙ ap (λ (r : Relay). set.insert identities r.identity.0) its)
          before.identities_are;
      keys_are =
          more_keys seed authorities n keys c.note_relay.new.keys
          (c.in_ok-new.ensures.keys ∙ ap (λ (r : Relay). set.insert keys r.ed) its) before.keys_are;
      listed_are =
          more_listed seed authorities n identities keys new old c.put_if.new.relays.entries before.identities_are
          before.keys_are (c.in_ok-new.ensures.new ∙ ap (λ (r : Relay). is_new identities keys r) its)
          before.listed_are
          (c.in_ok-put_if.ensures ∙ ap (λ (r : Relay). if new then with_relay old r else old) its);
    }
