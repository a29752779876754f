use Rattle.std.proofs.Common.{◌≡◌, ◌≤◌, ◌+◌, ◌++◌, take, drop, length, vec_len, vec_capacity}
use Rattle.dir_values.specs.{FlagSets.set_text, Lending.after_text}
use Rattle.dir_values.proofs.flag_set.push_flags.Given as goal

abbrev pub invariant-loop-flag : goal.invariant-loop-flag
invariant-loop-flag l = record {
  text : l.out.items ++ after_text (drop l.flag-index l.rest) ≡ l.fn.out.items ++ set_text l.fn.flags;
  left : vec_len l.out + length (after_text (drop l.flag-index l.rest)) ≡ vec_len l.fn.out + length (set_text l.fn.flags);
  front : take (vec_len l.fn.out) l.out.items ≡ l.fn.out.items;
  capacity : vec_capacity l.fn.out ≤ vec_capacity l.out;
}
