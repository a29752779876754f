use Rattle.std.proofs.Common.{◌≡◌, ◌≤◌, ◌++◌, List, length, arith, ap, ◌∙◌}
use Rattle.std.specs.FinSet as set
use Rattle.flag_rules.specs.Relays.{ruled_relays}
use Rattle.vote_terms.specs.declared.entry.EntryFacts.{EntryFacts}
use Rattle.vote_maker.specs.{Listings.judged_relays, Private.{entries_from, entries_text}}
use Rattle.vote_maker.proofs.{EntriesInTurn.{none_left, one_more_part}, Judged.{judged_ascend, judged_few}}
use Rattle.vote_maker.proofs.Listed.{listed_in_turn}
use Rattle.vote_maker.proofs.parts.push_entries_of.Goals as goal

pub parts-preserved : goal.parts-preserved
parts-preserved g c =
    let judged = judged_relays c.args.pool.now.descriptors (ruled_relays c.args.known.now c.args.rulings.now)
    c.args.flags.now in
    let out = c.parts.out.items in
    let entries = c.in_ok-entries.entries.items in
    let put : c.push_part.new.out.items ≡ out ++ entries_text entries =
    c.in_ok-push_part.ensures ∙ ap (λ (l : List EntryFacts). out ++ entries_text l) c.new.ensures in
    record {
      text =
          one_more_part c.args.newest judged c.parts.place c.part_end-end.result c.parts.keys c.entries_between.new.keys entries out
          c.push_part.new.out.items (c.args.out.now.items ++ entries_text (entries_from c.args.newest set.empty judged))
          c.in_ok-entries.ensures put c.parts.invariant.text;
      around = c.parts.invariant.around;
      within = omega (arith, c.part_end-end.ensures.within, c.len-in-parts.ensures.value);
    }

pub returns : goal.returns
returns g c =
    let descriptors = c.args.pool.now.descriptors in
    let ruled = ruled_relays c.args.known.now c.args.rulings.now in
    let judged = judged_relays descriptors ruled c.args.flags.now in
    let out = c.args.out.now.items in
    let ended : length descriptors ≤ c.parts.place = omega arith in
    let past : length judged ≤ c.parts.place =
    omega (arith, ended, judged_few descriptors ruled c.args.flags.now) in
    none_left c.args.newest judged c.parts.place c.parts.keys c.parts.out.items
    (out ++ entries_text (entries_from c.args.newest set.empty judged)) past c.parts.invariant.text
    ∙ ap (λ (entries : List EntryFacts). out ++ entries_text entries)
    (listed_in_turn c.args.newest judged (judged_ascend descriptors ruled c.args.flags.now c.len.ensures.ascending))
