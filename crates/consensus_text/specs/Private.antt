-- What the private functions of this crate say.
use Rattle.std.specs.Prelude.{Bool}
use Rattle.dir_values.specs.Digests.{identity_below}
use Rattle.consensus_terms.specs.declared.signature.SignatureLine.{SignatureLine}

-- whether a signature stands before another by its identity
abbrev pub stands_before : SignatureLine → SignatureLine → Bool
stands_before line other = identity_below line.identity other.identity
