use Rattle.std.proofs.Common.{◌≡◌, ◌++◌, drop, map, take, vec_len}
use Rattle.dirdoc_grammar.specs.Writing.{items_text}
use Rattle.descriptor_text.specs.Texts.{policy_item}
use Rattle.descriptor_text.proofs.items.push_policy.Given as goal

abbrev pub invariant-policy : goal.invariant-policy
invariant-policy l = record {
  text : l.out.items ++ items_text (map policy_item (drop l.item-index l.policy)) ≡ l.fn.out.items ++ items_text (map policy_item l.fn.policy);
  front : take (vec_len l.fn.out) l.out.items ≡ l.fn.out.items;
}
