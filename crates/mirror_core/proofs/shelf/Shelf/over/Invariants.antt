use Rattle.std.proofs.Common.{◌≡◌, drop}
use Rattle.mirror_core.specs.Rows.{with_rows, rows_of}
use Rattle.mirror_core.proofs.shelf.Shelf.over.Given as goal

-- the rows so far and those of the digests that are left are those of all
abbrev pub invariant-digests : goal.invariant-digests
invariant-digests l = with_rows l.fn.self l.shelf (drop l.digest-index l.digests) ≡ rows_of l.fn.self l.digests
