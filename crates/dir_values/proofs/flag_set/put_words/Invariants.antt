use Rattle.std.{proofs.Common.{◌≡◌, take, length, vec_len}, specs.List.fold}
use Rattle.item_terms.specs.Words.{words_of}
use Rattle.dir_values.specs.{Arguments.texts_of, FlagSets.{Ascend, with_flag}}
use Rattle.dir_values.proofs.flag_set.put_words.Given as goal

abbrev pub invariant-arguments : goal.invariant-arguments
invariant-arguments l = record {
  value : fold with_flag l.flags.items (texts_of l.arguments) ≡ fold with_flag l.fn.flags.items (words_of l.fn.text);
  front : take (vec_len l.fn.flags) l.flags.items ≡ l.fn.flags.items;
  ascending : Ascend l.flags.items;
}

abbrev pub decreases-arguments : goal.decreases-arguments
decreases-arguments l = length l.arguments
