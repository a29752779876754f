-- Signatures of which an authority's are dropped.
use Rattle.std.specs.Prelude.{◌≡◌, ◌≤◌, ◌<◌, ◌+◌, ℕ, not, List, ◌++◌, take, drop, length, filter}
use Rattle.dir_values.specs.{Digests.same_identity, declared.digest.Fingerprint.Fingerprint}
use Rattle.consensus_terms.specs.declared.signature.SignatureLine.{SignatureLine}

-- the signatures of all others than an authority
abbrev pub lines_but : List SignatureLine → Fingerprint → List SignatureLine
lines_but lines identity = filter (λ other. not (same_identity other.identity identity)) lines

-- the signatures before a place, and of those from there on all but an authority's
abbrev pub dropped_from : ℕ → Fingerprint → List SignatureLine → List SignatureLine
dropped_from at identity lines = take at lines ++ lines_but (drop at lines) identity

-- One more is looked at: what is to be left stays the same, and fewer are to be looked at.
pub record DropsAt (identity : Fingerprint) (old : List SignatureLine) (at : ℕ) (new : List SignatureLine) (next : ℕ)
    : Type 0 where
  pub same : dropped_from next identity new ≡ dropped_from at identity old
  pub within : next ≤ length new
  pub few : length new ≤ length old
  pub fewer : length new + at < length old + next
