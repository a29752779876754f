use Rattle.std.{proofs.Common.{◌≡◌, drop}, specs.List.fold}
use Rattle.vote_feed.specs.Blanks.{blank_with}
use Rattle.vote_feed.proofs.blanks.blank_after.Given as goal

abbrev pub invariant-bytes : goal.invariant-bytes
invariant-bytes l = fold blank_with l.blank (drop l.byte-index l.bytes) ≡ fold blank_with l.fn.blank l.bytes
