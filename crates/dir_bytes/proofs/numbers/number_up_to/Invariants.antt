use Rattle.std.{proofs.Common.{◌≡◌, ◌≤◌, take, true}, specs.Str.{all_ascii_digits, Parse.digits_value}}
use Rattle.dir_bytes.proofs.numbers.number_up_to.Given as goal

abbrev pub invariant-digits : goal.invariant-digits
invariant-digits l = record {
  digits : all_ascii_digits (take l.byte-index l.text) ≡ true;
  value : l.value ≡ digits_value 10 (take l.byte-index l.text);
  within : l.value ≤ l.limit;
}
