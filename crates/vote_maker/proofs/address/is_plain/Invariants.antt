use Rattle.std.proofs.Common.{◌≡◌, true, false, drop}
use Rattle.vote_maker.specs.Entries.{is_plain}
use Rattle.vote_maker.proofs.address.is_plain.Given as goal

abbrev pub invariant-bytes : goal.invariant-bytes
invariant-bytes l = is_plain l.begins l.zero (drop l.byte-index l.address) ≡ is_plain true false l.address
