-- The order in which signatures are written: ascending by identity, those of one identity in their order.
use Rattle.std.specs.{Prelude.{Bool, List, [], ◌∷◌, if◌then◌else◌}, List.fold}
use Rattle.dir_values.specs.Digests.{identity_below}
use Rattle.detached_doc.specs.declared.detached.DetachedLine.{DetachedLine}

-- whether a signature stands before another by its identity
abbrev pub stands_before : DetachedLine → DetachedLine → Bool
stands_before line other = identity_below line.line.identity other.line.identity

-- a signature among others that ascend by identity, behind those of its own identity
abbrev pub with_line : List DetachedLine → DetachedLine → List DetachedLine
with_line [] line = line ∷ []
with_line (first ∷ rest) line = if stands_before line first then line ∷ first ∷ rest else first ∷ with_line rest line

-- signatures ascending by identity, those of one identity in their order
abbrev pub in_order : List DetachedLine → List DetachedLine
in_order lines = fold with_line [] lines
