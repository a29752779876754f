-- What is said of a line that was written.
use Rattle.std.specs.{Prelude.{ℕ, ◌<◌, List, length, take, Option}, Io.KnownBytes.Appends}
use Rattle.dir_bytes.specs.Causes.{Rose}

-- A front of the text was written, and all of it unless the count rose.
pub record Reports (old new : Option (List ℕ)) (before now : ℕ) (text : List ℕ) : Type 0 where
  pub sent : ℕ
  pub written : Appends old new (take sent text)
  pub cause : sent < length text → Rose before now
