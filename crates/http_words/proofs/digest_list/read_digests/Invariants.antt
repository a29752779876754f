use Rattle.std.proofs.Common.{◌≡◌, ◌+◌, ◌-◌, ◌≤◌, length, vec_len}
use Rattle.http_words.{specs.DigestLists.{digest_limit, parts_of, digests_of}, proofs.Digests.behind}
use Rattle.http_words.proofs.digest_list.read_digests.Given as goal

abbrev pub invariant-parts : goal.invariant-parts
invariant-parts l = record {
  spelled : behind l.digests.items (digests_of (parts_of l.rest)) ≡ digests_of (parts_of l.fn.text);
  counted : vec_len l.digests + length (parts_of l.rest) ≡ length (parts_of l.fn.text);
  fits : vec_len l.digests ≤ digest_limit;
}

abbrev pub decreases-parts : goal.decreases-parts
decreases-parts l = digest_limit - vec_len l.digests
