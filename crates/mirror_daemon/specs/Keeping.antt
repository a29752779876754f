-- What a mirror comes to while it is kept.
use Rattle.std.specs.Prelude.{◌≡◌, List, [], ◌∷◌}
use Rattle.key_port.specs.Answers.{Rules}
use Rattle.mirror_core.specs.{Lists.CallsLeave, States.Mirrored}

-- the last of some mirrors, and the one before where there are none
abbrev pub last_of : Mirrored → List Mirrored → Mirrored
last_of before [] = before
last_of before (after ∷ more) = last_of after more

-- A mirror came of another by a list of calls, each with any answer.
pub record ComesOf (rules : Rules) (before now : Mirrored) : Type 0 where
  pub mirrors : List Mirrored
  pub leave : CallsLeave rules before mirrors
  pub last : now ≡ last_of before mirrors
