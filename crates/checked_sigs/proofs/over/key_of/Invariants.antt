use Rattle.std.proofs.Common.{◌≡◌, drop}
use Rattle.checked_sigs.specs.Asking.{key_of}
use Rattle.checked_sigs.proofs.over.key_of.Given as goal

abbrev pub invariant-keys : goal.invariant-keys
invariant-keys l = key_of (drop l.key-index l.keys) l.line ≡ key_of l.fn.keys l.line
