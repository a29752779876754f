use Rattle.std.proofs.Common.{◌≡◌, ◌≤◌, ◌+◌, ◌++◌, vec_len, vec_capacity, length}
use Rattle.dir_bytes.specs.FieldTexts.{base64_text}
use Rattle.dir_bytes.proofs.digests.push_base64.Given as goal

abbrev pub invariant-pieces : goal.invariant-pieces
invariant-pieces l = record {
  items : l.out.items ++ base64_text l.rest ≡ l.fn.out.items ++ base64_text l.bytes;
  room : vec_len l.out + length (base64_text l.rest) ≤ vec_capacity l.out;
  capacity : vec_capacity l.fn.out ≤ vec_capacity l.out;
}

abbrev pub decreases-pieces : goal.decreases-pieces
decreases-pieces l = length l.rest
