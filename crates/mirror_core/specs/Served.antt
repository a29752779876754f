-- What a mirror gives.
use Rattle.std.specs.Prelude.{◌≡◌, ℕ, true, List}
use Rattle.sha2.specs.Sha256.{sha256}
use Rattle.mirror_core.specs.{Wanting.is_among, States.{Mirrored, named_by}}

-- A text has this digest, and the held consensus names it.
pub record IsNamedText (mirror : Mirrored) (digest text : List ℕ) : Type 0 where
  pub digest_is : sha256 text ≡ digest
  pub named : is_among (named_by mirror.held) digest ≡ true
