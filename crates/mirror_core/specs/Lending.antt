-- What the private functions of this crate say.
use Rattle.std.specs.Prelude.{◌≡◌, ◌≤◌, ℕ, true, List, Option, Some, Ok, Err, filter, false}
use Rattle.consensus_terms.specs.declared.{consensus.SignedConsensus.SignedConsensus, flavour.Flavour.TheVariants.Ns}
use Rattle.consensus_doc.specs.Reading.{consensus_of}
use Rattle.frame_terms.specs.declared.fault.FrameFault.{FrameFault}
use Rattle.frame_terms.specs.declared.fault.ReadRefusal.TheVariants as read
use Rattle.blank_lines.specs.Behind.{fault_behind}
use Rattle.mirror_core.specs.{declared.refusal.MirrorRefusal.MirrorRefusal, Answers.ConsensusRefused, States.KeptCert}
use Rattle.mirror_core.specs.States.{Mirrored, named}
use Rattle.mirror_core.specs.declared.refusal.MirrorRefusal.TheVariants as refusal
use Rattle.dir_values.specs.{Digests.identity_below, declared.digest.Fingerprint.Fingerprint}
use Rattle.count_terms.specs.Counts.{over}
use Rattle.key_port.specs.Answers.{Rules}

-- what is kept of a consensus is what it says
pub record IsKeptOf (consensus : SignedConsensus) (valid_after : ℕ) (digests : List (List ℕ)) : Type 0 where
  pub valid_after_is : valid_after ≡ consensus.facts.valid_after
  pub digests_are : digests ≡ named consensus

-- why the bytes that stand in an input from a place on are no microdesc consensus
abbrev pub IsNoMicrodesc : ℕ → List ℕ → MirrorRefusal → Type 0
IsNoMicrodesc begin bytes (refusal.Document fault) =
    (found : FrameFault) × (consensus_of bytes ≡ Err (read.Frame found)) × (fault ≡ fault_behind begin found)
IsNoMicrodesc begin bytes refusal.WrongFlavour =
    (consensus : SignedConsensus) × (used : ℕ) × (consensus_of bytes ≡ Ok (consensus, used)) × (consensus.flavour ≡ Ns)
IsNoMicrodesc begin bytes refusal.Memory = Unit {0}
IsNoMicrodesc begin bytes (refusal.Older held) = ⊥
IsNoMicrodesc begin bytes refusal.VerifierFault = ⊥
IsNoMicrodesc begin bytes (refusal.TooFewSigners counted roster) = ⊥

-- why a consensus is not newer
abbrev pub IsNotNewer : Option ℕ → ℕ → MirrorRefusal → Type 0
IsNotNewer held valid_after (refusal.Older than) = (held ≡ Some than) × (valid_after ≤ than)
IsNotNewer held valid_after _ = ⊥

-- why it is not known who signed
abbrev pub IsNoSigning : MirrorRefusal → Type 0
IsNoSigning refusal.VerifierFault = Unit {0}
IsNoSigning refusal.Memory = Unit {0}
IsNoSigning _ = ⊥

-- the certificates of smaller fingerprints
abbrev pub below : Fingerprint → List KeptCert → List KeptCert
below authority certs = filter (λ (kept : KeptCert). identity_below kept.cert.fingerprint authority) certs

-- and of greater ones
abbrev pub above : Fingerprint → List KeptCert → List KeptCert
above authority certs = filter (λ (kept : KeptCert). identity_below authority kept.cert.fingerprint) certs

-- why a consensus is none that counts: it is no microdesc one, or not newer, or it is not known who signed it
abbrev pub IsUnsigned : Rules → Mirrored → ℕ → List ℕ → MirrorRefusal → Type 0
IsUnsigned rules before begin bytes (refusal.TooFewSigners counted roster) = ⊥
IsUnsigned rules before begin bytes why = ConsensusRefused rules before begin bytes why

-- so many are more than half
pub record IsMajority (count signers roster : ℕ) : Type 0 where
  pub count_is : count ≡ signers
  pub majority : over count roster ≡ true

-- they are not
abbrev pub IsMinority : ℕ → ℕ → MirrorRefusal → Type 0
IsMinority signers members (refusal.TooFewSigners counted roster) =
    (counted ≡ signers) × (roster ≡ members) × (over counted roster ≡ false)
IsMinority signers members _ = ⊥
