use Rattle.std.proofs.Common.{◌≡◌, ◌++◌, take, vec_len}
use Rattle.descriptor_text.{specs.Lines.groups_text, proofs.LeftOver.groups_behind}
use Rattle.descriptor_text.proofs.lines.push_groups.Given as goal

abbrev pub invariant-groups : goal.invariant-groups
invariant-groups l = record {
  text : l.rest.items ++ groups_behind l.identity.0 l.i ≡ l.fn.rest.items ++ groups_text l.fn.identity;
  front : take (vec_len l.fn.rest) l.rest.items ≡ l.fn.rest.items;
}
