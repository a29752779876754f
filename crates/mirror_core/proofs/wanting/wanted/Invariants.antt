use Rattle.std.proofs.Common.{◌≡◌, ◌≤◌, drop, take, length}
use Rattle.mirror_core.specs.Wanting.{most_wanted, missing_after, first_missing}
use Rattle.mirror_core.proofs.wanting.wanted.Given as goal

-- those so far and those that are left are those that are wanted
abbrev pub invariant-digests : goal.invariant-digests
invariant-digests l = record {
  few : length l.found.items ≤ most_wanted;
  found : take most_wanted (missing_after l.fn.shelf l.found.items (drop l.digest-index l.digests)) ≡ first_missing l.fn.shelf l.digests;
}
