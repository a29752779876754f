use Rattle.std.proofs.Common.{◌≡◌, ◌≤◌, ◌+◌, ◌++◌, take, drop, length, vec_len, vec_capacity}
use Rattle.item_terms.specs.Bytes.{space}
use Rattle.dir_values.specs.Ports.{word_text, entries_text}
use Rattle.dir_values.proofs.port_list.push_ranges.Given as goal

abbrev pub invariant-loop-range : goal.invariant-loop-range
invariant-loop-range l =
    let done = l.out in
    let left = entries_text l.separator (drop l.range-index l.ranges) in
    let whole = word_text l.accept ++ entries_text space l.fn.ranges in
    record {
      text : done.items ++ left ≡ l.fn.out.items ++ whole;
      left : vec_len done + length left ≡ vec_len l.fn.out + length whole;
      front : take (vec_len l.fn.out) done.items ≡ l.fn.out.items;
      capacity : vec_capacity l.fn.out ≤ vec_capacity done;
    }
