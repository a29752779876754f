-- What holds of a mirror, whatever it was given.
use Rattle.std.specs.Prelude.{◌≡◌, ℕ, true, List, [], length, All, AllPairs, Option, Some, None, slice_range}
use Rattle.sha2.specs.Sha256.{sha256}
use Rattle.count_terms.specs.Counts.{over}
use Rattle.dir_values.specs.{Digests.identity_below, Rosters.has_member, declared.digest.Fingerprint.Fingerprint}
use Rattle.key_port.specs.Answers.{Rules}
use Rattle.authority_certs.specs.{Checks.IsCertified, declared.cert.Cert.Cert}
use Rattle.consensus_terms.specs.declared.signature.SignatureLine.{SignatureLine}
use Rattle.detached_sigs.specs.{declared.key.SignerKey.SignerKey, Signers.{AreApart, has_good_line}}
use Rattle.mirror_core.specs.{Laws.{AreRowsOf, HaveDigests}, Answers.IsMicrodesc, Signers.sha256_lines}
use Rattle.mirror_core.specs.States.{HeldConsensus, KeptCert, Mirrored, named_by}

-- A certificate is of a member, and held at some moment.
pub record IsChecked (rules : Rules) (roster : List Fingerprint) (kept : KeptCert) : Type 0 where
  pub at : ℕ
  pub member : has_member roster kept.cert.fingerprint ≡ true
  pub certified : IsCertified rules at kept.cert

-- A key is the signing key of its authority's certificate, which held at some moment.
pub record IsCertifiedKey (rules : Rules) (key : SignerKey) : Type 0 where
  pub cert : Cert
  pub at : ℕ
  pub certified : IsCertified rules at cert
  pub authority_is : key.authority ≡ cert.fingerprint
  pub key_is : key.key ≡ cert.signing_key

-- certificates ascend by fingerprint, so that none is of the same authority as another
abbrev pub CertsAscend : List KeptCert → Type 0
CertsAscend certs =
    AllPairs (λ (one other : KeptCert). identity_below one.cert.fingerprint other.cert.fingerprint ≡ true) certs

-- each of the keys has a line that may be accepted over the digest of the signed part; where no part is signed there are
-- no keys
abbrev pub HaveLines : Rules → List ℕ → Option (ℕ × ℕ) → List SignatureLine → List SignerKey → Type 0
HaveLines rules bytes None lines signers = signers ≡ []
HaveLines rules bytes (Some (begin, end)) lines signers =
    All (λ key. has_good_line rules (sha256 (slice_range bytes begin end)) lines key ≡ true) signers

-- A consensus is of the microdesc flavour, and is kept with the certified signing keys of more than half of the roster, one
-- of each authority, for each of which it has a line that may be accepted.
pub record IsByMajority (rules : Rules) (roster : List Fingerprint) (held : HeldConsensus) : Type 0 where
  pub microdesc : IsMicrodesc held.bytes held.consensus
  pub members : All (λ key. has_member roster key.authority ≡ true) held.signers
  pub certified : All (IsCertifiedKey rules) held.signers
  pub once : AllPairs AreApart held.signers
  pub lines : HaveLines rules held.bytes held.consensus.signed (sha256_lines held.consensus.signatures) held.signers
  pub majority : over (length held.signers) (length roster) ≡ true

-- so is the one that is held, if one is
abbrev pub IsHeldByMajority : Rules → List Fingerprint → Option HeldConsensus → Type 0
IsHeldByMajority rules roster None = Unit {0}
IsHeldByMajority rules roster (Some held) = IsByMajority rules roster held

-- All that is held: checked certificates of members, one of each at most; a consensus that a majority signed; and
-- microdescriptors, each of which the consensus names by its SHA-256.
pub record IsSound (rules : Rules) (mirror : Mirrored) : Type 0 where
  pub checked : All (IsChecked rules mirror.roster) mirror.certs
  pub ascend : CertsAscend mirror.certs
  pub signed : IsHeldByMajority rules mirror.roster mirror.held
  pub named : AreRowsOf (named_by mirror.held) mirror.rows
  pub digests : HaveDigests mirror.rows
