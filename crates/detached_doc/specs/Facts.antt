-- Detached signatures from the bytes and what was kept of them (dir-spec, "Serving and fetching detached signatures").
use Rattle.std.specs.Prelude.{ℕ, List, [], map, unwrap_or, Some, None}
use Rattle.dir_bytes.specs.HexBytes.{hex_bytes}
use Rattle.consensus_terms.specs.declared.signature.SignatureLine.{SignatureLine}
use Rattle.consensus_doc.specs.Drafts.{signature_of}
use Rattle.frame_values.specs.{Parts.{bytes_in, moment_of, part}, declared.found.Span.Span}
use Rattle.detached_frame.specs.declared.said.AdditionalDigestLine.{AdditionalDigestLine}
use Rattle.detached_frame.specs.declared.said.AdditionalSignatureLine.{AdditionalSignatureLine}
use Rattle.detached_doc.specs.declared.detached.{AdditionalDigest.AdditionalDigest, Detached.Detached}
use Rattle.detached_doc.specs.declared.{detached.DetachedLine.DetachedLine, kept.Kept.Kept, said.SignedLine.SignedLine}
use Rattle.detached_doc.specs.declared.said.SignedLine.TheVariants.{Plain, Additional}

-- the bytes that stand in a span in hex. Each digest that is read is hex, so that none is lost.
abbrev pub hex_in : List ℕ → Span → List ℕ
hex_in bytes span = unwrap_or (hex_bytes (part bytes span)) []

-- the digest of another flavour
abbrev pub digest_in : List ℕ → AdditionalDigestLine → AdditionalDigest
digest_in bytes line = record {
  flavour = part bytes line.flavour;
  algorithm = part bytes line.algorithm;
  digest = hex_in bytes line.digest;
}

-- by whom another flavour is signed, and the signature; the algorithm is the one that is named, whatever it is
abbrev pub additional_in : List ℕ → AdditionalSignatureLine → SignatureLine
additional_in bytes line = record {
  algorithm = part bytes line.algorithm;
  identity = line.identity;
  key_digest = line.key_digest;
  signature = bytes_in bytes line.signature;
}

-- a signature: a `directory-signature` names no flavour
abbrev pub line_in : List ℕ → SignedLine → DetachedLine
line_in bytes (Plain signature) = record { flavour = None; line = signature_of bytes signature }
line_in bytes (Additional line) = record { flavour = Some (part bytes line.flavour); line = additional_in bytes line }

-- the detached signatures of which this was kept
abbrev pub detached_in : List ℕ → Kept → Detached
detached_in bytes kept = record {
  ns = kept.head.ns;
  valid_after = moment_of kept.head.valid_after;
  fresh_until = moment_of kept.head.fresh_until;
  valid_until = moment_of kept.head.valid_until;
  additional = map (digest_in bytes) kept.additional;
  signatures = map (line_in bytes) kept.signatures;
}
