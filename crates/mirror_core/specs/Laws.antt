-- What holds of rows.
use Rattle.std.specs.Prelude.{◌≡◌, ◌≤◌, ℕ, length, true, false, List, [], All, Option, Some, None, is_some}
use Rattle.std.specs.Str.{bytes_eq}
use Rattle.sha2.specs.Sha256.{sha256}
use Rattle.mirror_core.specs.{Rows.{Rows, row_of, micro_of}, Wanting.{is_among, most_wanted}}

-- what a row has has the row's digest
abbrev pub HasDigest : List ℕ × Option (List ℕ) → Type 0
HasDigest (digest, None) = Unit {0}
HasDigest (digest, Some text) = sha256 text ≡ digest

-- so for each row
abbrev pub HaveDigests : Rows → Type 0
HaveDigests rows = All HasDigest rows

-- exactly these digests have a row
abbrev pub AreRowsOf : List (List ℕ) → Rows → Type 0
AreRowsOf digests rows = (digest : List ℕ) → is_some (row_of rows digest) ≡ is_among digests digest

-- the microdescriptor with a digest is held
abbrev pub IsHeld : Rows → List ℕ → Type 0
IsHeld rows digest = is_some (micro_of rows digest) ≡ true

-- it is named and not held
pub record IsMissing (rows : Rows) (digests : List (List ℕ)) (digest : List ℕ) : Type 0 where
  pub named : is_among digests digest ≡ true
  pub missing : is_some (micro_of rows digest) ≡ false

-- two digests differ
abbrev pub Differ : List ℕ → List ℕ → Type 0
Differ one other = bytes_eq one other ≡ false

-- What is wanted: digests that are named and not held, at most 92; none exactly where each that is named is held.
pub record AreWanted (rows : Rows) (digests wanted : List (List ℕ)) : Type 0 where
  pub missing : All (IsMissing rows digests) wanted
  pub few : length wanted ≤ most_wanted
  pub none : All (IsHeld rows) digests → wanted ≡ []
  pub only : wanted ≡ [] → All (IsHeld rows) digests
