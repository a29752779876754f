use Rattle.std.proofs.Common.{◌≡◌, ◌≤◌, ◌+◌, ◌∙◌, ap, ℕ, List, Bool, length, map, replicate, arith}
use Rattle.std.proofs.lemmas.List.{length-map}
use Rattle.consensus_calc.proofs.Counts.{knowing_more, none_known, zeros_few, added_few, vote_row}
use Rattle.consensus_calc.proofs.setting.count_knowing.Goals as goal

pub votes-init : goal.votes-init
votes-init c = record {
  counts = c.in_ok-zeros.ensures ∙ ap (λ (n : ℕ). replicate n 0) c.len.ensures.value ∙ none_known c.args.known.now;
  few = λ k. rw c.in_ok-zeros.ensures (zeros_few c.len.result k);
}

pub add-requires : goal.add-requires
add-requires c =
    let r = vote_row c.args.votes.now.votes c.args.known.now c.votes.i c.args.table.now c.as_slice-row.result.now _ (omega arith) c.requires (c.as_slice-row.ensures ∙ c.index-table-i.is) in
    let row : length c.as_slice-row.result.now ≡ length c.args.known.now = ap (λ (l : List Bool). length l) r.knows_is ∙ length-map c.args.known.now _ in
    let counts : length c.votes.counts.items ≡ length c.args.known.now = ap (λ (l : List ℕ). length l) c.votes.invariant.counts ∙ length-map c.args.known.now _ in
    record {
      first = omega (arith, row, counts);
      second = omega (arith, row, counts);
      room = λ k. omega (arith, c.votes.invariant.few k);
    }

pub votes-preserved : goal.votes-preserved
votes-preserved c =
    let r = vote_row c.args.votes.now.votes c.args.known.now c.votes.i c.args.table.now c.as_slice-row.result.now _ (omega arith) c.requires (c.as_slice-row.ensures ∙ c.index-table-i.is) in
    record {
      counts = knowing_more c.args.votes.now.votes c.votes.i c.args.known.now r.vote c.votes.counts.items c.add.new.counts.items c.as_slice-row.result.now (omega arith) r.stands c.votes.invariant.counts r.knows_is c.add.ensures;
      few = λ k. rw c.add.ensures (omega (arith, added_few c.as_slice-row.result.now c.as_slice-row.result.now c.votes.counts.items k, c.votes.invariant.few k));
    }
