use Rattle.std.{proofs.Common.{◌≡◌, length}, specs.Option.option_or}
use Rattle.bandwidth_file.specs.{Lending.item_seen, Lines.{last_of, last_value, node_id, bw, vote}}
use Rattle.bandwidth_file.proofs.items.Items.of.Given as goal

abbrev pub invariant-items : goal.invariant-items
invariant-items l = record {
  node : option_or (last_of node_id l.arguments) (item_seen l.node) ≡ last_value node_id l.fn.place l.fn.text;
  band : option_or (last_of bw l.arguments) (item_seen l.band) ≡ last_value bw l.fn.place l.fn.text;
  vote : option_or (last_of vote l.arguments) (item_seen l.vote) ≡ last_value vote l.fn.place l.fn.text;
}

abbrev pub decreases-items : goal.decreases-items
decreases-items l = length l.arguments
