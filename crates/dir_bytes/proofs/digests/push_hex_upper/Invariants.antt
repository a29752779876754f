use Rattle.std.proofs.Common.{◌≡◌, ◌≤◌, ◌+◌, ◌*◌, ◌-◌, ◌++◌, take, vec_len, vec_capacity, length}
use Rattle.dir_bytes.specs.FieldTexts.{hex_text}
use Rattle.dir_bytes.proofs.digests.push_hex_upper.Given as goal

abbrev pub invariant-digits : goal.invariant-digits
invariant-digits l = record {
  items : l.out.items ≡ l.fn.out.items ++ hex_text (take l.byte-index l.bytes);
  room : vec_len l.out + 2 * (length l.bytes - l.byte-index) ≤ vec_capacity l.out;
  capacity : vec_capacity l.fn.out ≤ vec_capacity l.out;
}
