use Rattle.std.proofs.Common.{◌≡◌, ◌<◌, ◌≤◌, ◌+◌, ◌∙◌, sym, ap, ℕ, List, Bool, length, map, take, replicate, get_or}
use Rattle.std.proofs.{Common.arith, lemmas.List.length-map}
use Rattle.vote_terms.specs.declared.entry.EntryFacts.{EntryFacts}
use Rattle.dir_values.specs.FlagSets.{has_flag}
use Rattle.compute_terms.specs.{declared.belong.Belong.Belong, Listings.{Listing, listings_at}}
use Rattle.compute_terms.specs.RelayFlags.{setting_count}
use Rattle.consensus_calc.proofs.Counts.{setting_more, none_set, zeros_few, added_few, member, vote_within}
use Rattle.consensus_calc.proofs.Counts.{listings_more}
use Rattle.consensus_calc.proofs.setting.count_setting.Goals as goal

pub members-init : goal.members-init
members-init c = record {
  counts = c.in_ok-zeros.ensures ∙ ap (λ (n : ℕ). replicate n 0) c.len.ensures.value ∙ none_set c.args.known.now;
  few = λ k. rw c.in_ok-zeros.ensures (zeros_few c.len.result k);
}

pub bounds-table-at : goal.bounds-table-at
bounds-table-at c =
    let at : Belong = get_or c.args.members.now c.members.at-index (record { vote = 0; entry = 0 }) in
    let rows : length c.args.table.now ≡ length c.args.votes.now.votes = ap (λ (l : List (List Bool)). length l) c.requires.table ∙ length-map c.args.votes.now.votes _ in
    let below : at.vote < length c.args.votes.now.votes = vote_within c.args.votes.now.votes at (c.requires.members c.members.at-index (record { vote = 0; entry = 0 }) (omega arith)) in
    omega (arith, rows, below)

pub add-requires : goal.add-requires
add-requires c =
    let r = member c.args.votes.now.votes c.args.known.now _ c.entry_at.result c.args.table.now c.as_slice-row.result.now _ c.requires.table c.entry_at.ensures (c.as_slice-row.ensures ∙ c.index-table-at.is) in
    let row : length c.as_slice-row.result.now ≡ length c.args.known.now = ap (λ (l : List Bool). length l) r.knows_is ∙ length-map c.args.known.now _ in
    let marks : length c.deref.result.now ≡ length c.args.known.now = ap (λ (l : List Bool). length l) (c.deref.ensures.value ∙ c.in_ok-mark.ensures) ∙ length-map c.args.known.now _ in
    let counts : length c.members.counts.items ≡ length c.args.known.now = ap (λ (l : List ℕ). length l) c.members.invariant.counts ∙ length-map c.args.known.now _ in
    record {
      first = omega (arith, row, counts);
      second = omega (arith, marks, counts);
      room = λ k. omega (arith, c.members.invariant.few k);
    }

pub members-preserved : goal.members-preserved
members-preserved c =
    let known = c.args.known.now in
    let votes = c.args.votes.now.votes in
    let r = member votes known _ c.entry_at.result c.args.table.now c.as_slice-row.result.now _ c.requires.table c.entry_at.ensures (c.as_slice-row.ensures ∙ c.index-table-at.is) in
    let flags : c.deref.result.now ≡ map (λ flag. has_flag r.listing.entry.flags flag) known =
    c.deref.ensures.value ∙ c.in_ok-mark.ensures
    ∙ ap (λ (set : List (List ℕ)). map (λ flag. has_flag set flag) known) (c.flags.ensures.set ∙ ap (λ (e : EntryFacts). e.flags) (sym r.says)) in
    record {
      counts = setting_more (listings_at votes (take c.members.at-index c.args.members.now)) r.listing known c.members.counts.items c.add.new.counts.items c.as_slice-row.result.now c.deref.result.now c.members.invariant.counts r.knows_is flags c.add.ensures
          ∙ ap (λ (said : List Listing). map (setting_count said) known) (listings_more votes c.args.members.now c.members.at-index _ r.listing (omega arith) r.stands);
      few = λ k. rw c.add.ensures (omega (arith, added_few c.as_slice-row.result.now c.deref.result.now c.members.counts.items k, c.members.invariant.few k));
    }
