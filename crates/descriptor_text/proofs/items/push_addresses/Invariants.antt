use Rattle.std.proofs.Common.{◌≡◌, ◌++◌, drop, map, take, vec_len}
use Rattle.dirdoc_grammar.specs.Writing.{items_text}
use Rattle.frame_terms.specs.declared.keyword.Keyword.TheVariants.{OrAddress}
use Rattle.frame_values.specs.Items.{bare}
use Rattle.descriptor_text.proofs.items.push_addresses.Given as goal

abbrev pub invariant-addresses : goal.invariant-addresses
invariant-addresses l = record {
  text : l.out.items ++ items_text (map (bare OrAddress) (drop l.address-index l.addresses))
      ≡ l.fn.out.items ++ items_text (map (bare OrAddress) l.fn.addresses);
  front : take (vec_len l.fn.out) l.out.items ≡ l.fn.out.items;
}
