-- A line of signatures as it is offered to an authority.
use Rattle.std.specs.Prelude.{ℕ, List}
use Rattle.consensus_terms.specs.declared.{flavour.Flavour.Flavour, signature.SignatureLine.SignatureLine}
use Rattle.period_terms.specs.declared.signature.OfferedSignature.{OfferedSignature}

-- a line as it is offered: for a period, over a digest of a flavour, by a key
abbrev pub offered_signature : ℕ → Flavour → List ℕ → List ℕ → SignatureLine → OfferedSignature
offered_signature valid_after flavour digest key line = record {
  authority = line.identity;
  key = key;
  key_digest = line.key_digest;
  flavour = flavour;
  valid_after = valid_after;
  digest = digest;
  signature = line.signature;
}
