use Rattle.std.proofs.Common.{◌≡◌, ◌++◌, drop, take, vec_len}
use Rattle.dir_values.specs.{Lending.after_numbers, Numbers.numbers_text}
use Rattle.dir_values.proofs.number_list.push_numbers.Given as goal

abbrev pub invariant-numbers : goal.invariant-numbers
invariant-numbers l = record {
  text : l.out.items ++ after_numbers (drop l.number-index l.others) ≡ l.fn.out.items ++ numbers_text l.fn.list;
  front : take (vec_len l.fn.out) l.out.items ≡ l.fn.out.items;
}
