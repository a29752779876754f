-- What values may be that are written.
use Rattle.std.specs.Prelude.{◌≡◌, ℕ, List, length}
use Rattle.base64.specs.GeneralPurpose.{IsBytes}

-- the bytes are twenty, as those of an identity or of a key's digest
pub record AreTwenty (bytes : List ℕ) : Type 0 where
  pub count : length bytes ≡ 20
  pub each : IsBytes bytes
