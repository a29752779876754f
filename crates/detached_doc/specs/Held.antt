-- The detached signatures of a consensus in both flavours (dir-spec, "Serving and fetching detached signatures").
use Rattle.std.specs.Prelude.{List, [], ◌∷◌, ◌++◌, Some, None, codes, map}
use Rattle.dir_values.specs.declared.digest.{Digest1.Digest1, Digest2.Digest2}
use Rattle.consensus_terms.specs.declared.consensus.ConsensusFacts.{ConsensusFacts}
use Rattle.consensus_terms.specs.declared.signature.SignatureLine.{SignatureLine}
use Rattle.detached_doc.specs.declared.detached.{AdditionalDigest.AdditionalDigest, Detached.Detached}
use Rattle.detached_doc.specs.declared.detached.DetachedLine.{DetachedLine}

-- the digest of the microdesc flavour
abbrev pub micro_digest : Digest2 → AdditionalDigest
micro_digest digest = record { flavour = codes "microdesc"; algorithm = codes "sha256"; digest = digest.0 }

-- a signature over the microdesc flavour
abbrev pub over_micro : SignatureLine → DetachedLine
over_micro line = record { flavour = Some (codes "microdesc"); line = line }

-- a signature over the ns flavour
abbrev pub over_ns : SignatureLine → DetachedLine
over_ns line = record { flavour = None; line = line }

-- the detached signatures of a consensus that says this, by the digests of its flavours and the signatures over them: of ns,
-- then of microdesc
abbrev pub held_signatures : ConsensusFacts → Digest1 → Digest2 → List SignatureLine → List SignatureLine → Detached
held_signatures facts ns microdesc ns_lines micro_lines = record {
  ns = ns;
  valid_after = facts.valid_after;
  fresh_until = facts.fresh_until;
  valid_until = facts.valid_until;
  additional = micro_digest microdesc ∷ [];
  signatures = map over_micro micro_lines ++ map over_ns ns_lines;
}
