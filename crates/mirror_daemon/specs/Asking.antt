-- What a peer answers.
use Rattle.std.specs.Prelude.{ℕ, ◌≤◌, length}
use Rattle.mirror_daemon.specs.declared.asking.Given.{Given}
use Rattle.mirror_daemon.specs.declared.asking.Given.TheVariants as given

-- a document has no more bytes than the limit
abbrev pub IsWithin : ℕ → Given → Type 0
IsWithin limit (given.Document body) = length body.items ≤ limit
IsWithin limit given.Nothing = Unit {0}
IsWithin limit given.Failed = Unit {0}
