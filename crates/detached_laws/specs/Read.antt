-- What is read of detached signatures is in range (dir-spec, "Serving and fetching detached signatures").
use Rattle.std.specs.Prelude.{◌≡◌, ℕ, ◌≤◌, List, All, Ok}
use Rattle.dir_bytes.specs.Causes.{last_moment}
use Rattle.frame_values.specs.Ranges.{AreTwenty}
use Rattle.detached_doc.specs.{declared.detached.Detached.Detached, Reading.detached_of}
use Rattle.detached_laws.specs.Again.{IsDigestInRange, IsLineInRange}

-- each of the values of detached signatures is one that can be read: all that `IsInRange` asks for, but that their items may
-- be written
pub record SaysInRange (d : Detached) : Type 0 where
  pub ns : AreTwenty d.ns.0
  pub valid_after : d.valid_after ≤ last_moment
  pub fresh_until : d.fresh_until ≤ last_moment
  pub valid_until : d.valid_until ≤ last_moment
  pub additional : All IsDigestInRange d.additional
  pub signatures : All IsLineInRange d.signatures

-- Detached signatures that are read say what can be read.
abbrev pub DetachedReadAreInRange : Type 0
DetachedReadAreInRange = (bytes : List ℕ) (d : Detached) (used : ℕ) → detached_of bytes ≡ Ok (d, used) → SaysInRange d
