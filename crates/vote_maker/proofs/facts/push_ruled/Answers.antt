use Rattle.std.proofs.Common.{◌≡◌, ◌++◌, List, length, subst, sym, ap, ap₂, ◌∙◌}
use Rattle.flag_rules.specs.{Flags.flags_of, Relays.ruled_relays, Rules.AreAllowed}
use Rattle.flag_rules.specs.declared.{relay.RelayFacts.RelayFacts, ruling.Ruling.Ruling}
use Rattle.station_input.specs.declared.frame_said.MeasuredRelay.{MeasuredRelay}
use Rattle.vote_terms.specs.declared.entry.EntryFacts.{EntryFacts}
use Rattle.vote_maker.{specs.{Private.{MeasureAlike, entries_text}, Relays.known_relays}, proofs.RuledEntries.as_many}
use Rattle.vote_maker.proofs.RuledEntries.{entries_ruled, known_alike}
use Rattle.vote_maker.proofs.facts.push_ruled.Goals as goal

pub push_entries_of-requires-clause-many : goal.push_entries_of-requires-clause-many
push_entries_of-requires-clause-many g c =
    let known = c.deref-2.result.now in
    let rulings = c.as_slice-2.result.now in
    let flags = c.as_slice-3.result.now in
    let same : c.deref.result.now ≡ known = c.deref.ensures.value ∙ sym c.deref-2.ensures.value in
    let one_each : length rulings ≡ length known =
    ap (λ (l : List Ruling). length l) c.as_slice-2.ensures ∙ c.in_ok-given.ensures.allowed.one_each
    ∙ ap (λ (l : List RelayFacts). length l) same in
    let flags_are : flags ≡ flags_of c.args.now (ruled_relays known rulings) =
    c.as_slice-3.ensures ∙ c.in_ok-given.ensures.flags
    ∙ ap₂ (λ (k : List RelayFacts) (r : List Ruling). flags_of c.args.now (ruled_relays k r)) same
    (sym c.as_slice-2.ensures) in
    as_many c.in_ok-measures.measures c.args.pool.now.descriptors c.args.now known rulings flags
    (c.deref-2.ensures.value ∙ c.in_ok-known.ensures) one_each flags_are

pub returns : goal.returns
returns g c =
    let measured = c.args.station.now.measured in
    let measures = c.in_ok-measures.measures in
    let descriptors = c.args.pool.now.descriptors in
    let given = c.in_ok-given.given.rulings in
    let known = c.deref-2.result.now in
    let rulings = c.as_slice-2.result.now in
    let alike : MeasureAlike measured measures =
    subst (λ (m : List MeasuredRelay). MeasureAlike m measures) c.as_slice.ensures c.in_ok-measures.ensures in
    let same : c.deref.result.now ≡ known = c.deref.ensures.value ∙ sym c.deref-2.ensures.value in
    let known_is : known ≡ known_relays measured descriptors =
    c.deref-2.ensures.value ∙ c.in_ok-known.ensures ∙ known_alike measured measures alike descriptors in
    let flags_are = c.as_slice-3.ensures ∙ c.in_ok-given.ensures.flags
    ∙ ap₂ (λ (k : List RelayFacts) (r : List Ruling). flags_of c.args.now (ruled_relays k r)) same
    (sym c.as_slice-2.ensures) in
    record {
      rulings = given;
      allowed = subst (λ (l : List RelayFacts). AreAllowed (g.R.Rules.allows c.args.hook.now.rules) l given)
          (same ∙ known_is) c.in_ok-given.ensures.allowed;
      new_is = c.in_ok-push_entries_of.ensures
          ∙ ap (λ (l : List EntryFacts). c.args.out.now.items ++ entries_text l)
          (entries_ruled c.args.station.now.newest measured descriptors c.args.now known rulings given c.as_slice-3.result.now known_is
          c.as_slice-2.ensures flags_are);
    }
