use Rattle.std.proofs.Common.{◌≡◌, ◌++◌, drop, take, vec_len}
use Rattle.dir_values.specs.Lending.{after_text}
use Rattle.descriptor_frame.specs.Families.{family_text}
use Rattle.descriptor_frame.proofs.text.push_names.Given as goal

abbrev pub invariant-names : goal.invariant-names
invariant-names l = record {
  text : l.rest.items ++ after_text (drop l.name-index l.others) ≡ l.fn.rest.items ++ family_text l.fn.names;
  front : take (vec_len l.fn.rest) l.rest.items ≡ l.fn.rest.items;
}
