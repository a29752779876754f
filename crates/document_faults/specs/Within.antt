-- Where the first fault of a consensus, of a microdescriptor and of a certificate stands: within its bytes.
use Rattle.std.specs.Prelude.{◌≡◌, ℕ, ◌≤◌, List, length, Err}
use Rattle.frame_terms.specs.declared.fault.{FrameFault.FrameFault, ReadRefusal.TheVariants.Frame}
use Rattle.authority_certs.specs.Reading.{cert_of}
use Rattle.consensus_doc.specs.Reading.{consensus_of}
use Rattle.micro_desc.specs.Reading.{micro_of}

-- The first fault of a consensus stands within its bytes.
abbrev pub ConsensusFaultsStandWithin : Type 0
ConsensusFaultsStandWithin = (bytes : List ℕ) (fault : FrameFault) → consensus_of bytes ≡ Err (Frame fault)
    → fault.place ≤ length bytes

-- The first fault of a microdescriptor stands within its bytes.
abbrev pub MicroFaultsStandWithin : Type 0
MicroFaultsStandWithin = (bytes : List ℕ) (fault : FrameFault) → micro_of bytes ≡ Err (Frame fault)
    → fault.place ≤ length bytes

-- The first fault of a certificate stands within its bytes.
abbrev pub CertFaultsStandWithin : Type 0
CertFaultsStandWithin = (bytes : List ℕ) (fault : FrameFault) → cert_of bytes ≡ Err (Frame fault)
    → fault.place ≤ length bytes
