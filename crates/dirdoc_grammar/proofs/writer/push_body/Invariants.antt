use Rattle.std.proofs.Common.{◌≡◌, ◌++◌, length, take, vec_len}
use Rattle.dirdoc_grammar.specs.Bodies.{body_text}
use Rattle.dirdoc_grammar.proofs.writer.push_body.Given as goal

abbrev pub invariant-lines : goal.invariant-lines
invariant-lines l = record {
  items : l.out.items ++ body_text l.rest ≡ l.fn.out.items ++ body_text l.bytes;
  front : take (vec_len l.fn.out) l.out.items ≡ l.fn.out.items;
}

abbrev pub decreases-lines : goal.decreases-lines
decreases-lines l = length l.rest
