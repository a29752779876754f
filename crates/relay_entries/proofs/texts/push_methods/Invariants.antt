use Rattle.std.proofs.Common.{◌≡◌, ◌++◌, drop, take, vec_len}
use Rattle.relay_entries.{specs.Texts.methods_text, proofs.Methods.after_commas}
use Rattle.relay_entries.proofs.texts.push_methods.Given as goal

abbrev pub invariant-methods : goal.invariant-methods
invariant-methods l = record {
  text : l.rest.items ++ after_commas (drop l.method-index l.others) ≡ l.fn.rest.items ++ methods_text l.fn.methods;
  front : take (vec_len l.fn.rest) l.rest.items ≡ l.fn.rest.items;
}
