-- What a line of detached signatures is over, and by whose key (dir-spec, "Serving and fetching detached signatures").
use Rattle.std.specs.Prelude.{ℕ, Bool, ◌==◌, ◌&&◌, List, length, codes, Option, Some, None, option_and_then, option_map}
use Rattle.std.specs.{Prelude.if◌then◌else◌, List.{filter_map, find}, Str.bytes_eq}
use Rattle.consensus_terms.specs.declared.flavour.Flavour.{Flavour, TheVariants.{Ns, Microdesc}}
use Rattle.consensus_terms.specs.declared.signature.SignatureLine.{SignatureLine}
use Rattle.detached_doc.specs.declared.detached.{AdditionalDigest.AdditionalDigest, Detached.Detached}
use Rattle.detached_doc.specs.declared.detached.DetachedLine.{DetachedLine}
use Rattle.detached_sigs.specs.{declared.key.SignerKey.SignerKey, Signers.is_line_of}
use Rattle.period_terms.specs.declared.{signature.OfferedSignature.OfferedSignature, view.PeriodView.PeriodView}
use Rattle.period_terms.specs.Offered.{offered_signature}

-- the flavour of these names of a flavour and an algorithm, where both are known: ns, which is not named, with SHA-1,
-- and microdesc with SHA-256
abbrev pub flavour_named : Option (List ℕ) → List ℕ → Option Flavour
flavour_named None algorithm = if bytes_eq algorithm (codes "sha1") then Some Ns else None
flavour_named (Some name) algorithm =
    if bytes_eq name (codes "microdesc") && bytes_eq algorithm (codes "sha256") then Some Microdesc else None

-- the flavour that a line is over
abbrev pub flavour_of : DetachedLine → Option Flavour
flavour_of line = flavour_named line.flavour line.line.algorithm

-- whether a digest is a SHA-256 of the microdesc flavour
abbrev pub is_micro : AdditionalDigest → Bool
is_micro digest =
    bytes_eq digest.flavour (codes "microdesc")
    && (bytes_eq digest.algorithm (codes "sha256") && (length digest.digest == 32))

-- the first of these that is
abbrev pub micro_digest : List AdditionalDigest → Option (List ℕ)
micro_digest digests = option_map (λ (digest : AdditionalDigest). digest.digest) (find is_micro digests)

-- the document's own digest of a flavour
abbrev pub digest_over : Detached → Flavour → Option (List ℕ)
digest_over d Ns = Some d.ns.0
digest_over d Microdesc = micro_digest d.additional

-- the first of these keys whose authority and digest a line names
abbrev pub key_of : List SignerKey → SignatureLine → Option SignerKey
key_of keys line = find (λ (key : SignerKey). is_line_of key line) keys

-- a line as it is offered, where its flavour, its digest and its key are known
abbrev pub offered_by : PeriodView → Detached → DetachedLine → Option OfferedSignature
offered_by view d line =
    option_and_then (λ (flavour : Flavour).
    option_and_then (λ (digest : List ℕ).
    option_map (λ (key : SignerKey). offered_signature d.valid_after flavour digest key.key line.line)
    (key_of view.keys line.line))
    (digest_over d flavour))
    (flavour_of line)

-- all of these lines that are, in their order; the others are skipped
abbrev pub offered_lines : PeriodView → Detached → List DetachedLine → List OfferedSignature
offered_lines view d lines = filter_map (offered_by view d) lines
