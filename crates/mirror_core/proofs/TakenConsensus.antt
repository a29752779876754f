-- A consensus that is taken, or is not.
use Rattle.std.{proofs.Common.{◌≡◌, ℕ, ◌<◌, ◌≤◌, List, length, Some, refl, ap, ◌∙◌, arith}, specs.Prelude.◌^◌}
use Rattle.blank_lines.specs.Behind.{FitsBehind, refusal_behind}
use Rattle.consensus_doc.specs.Reading.{consensus_of}
use Rattle.document_faults.proofs.DocumentFaults.{consensus_within}
use Rattle.frame_terms.specs.{Refusals.Fails, declared.fault.ReadRefusal.ReadRefusal}
use Rattle.frame_terms.specs.declared.fault.ReadRefusal.TheVariants as read
use Rattle.key_port.specs.Answers.{Rules}
use Rattle.consensus_terms.specs.declared.consensus.SignedConsensus.{SignedConsensus}
use Rattle.detached_sigs.specs.declared.key.SignerKey.{SignerKey}
use Rattle.mirror_core.specs.{Rows.{Rows, rows_of}, declared.refusal.MirrorRefusal.MirrorRefusal}
use Rattle.mirror_core.specs.{Answers.{ConsensusRefused, IsSignedBy, TakesConsensus}, States.{HeldConsensus, Mirrored}}
use Rattle.mirror_core.specs.{States.named, Lending.{IsMajority, IsNoMicrodesc, IsUnsigned}, Refusals.of_read}
use Rattle.mirror_core.specs.declared.refusal.MirrorRefusal.TheVariants as refusal

-- why it does not count is why it is refused
pub unsigned : (rules : Rules) (before : Mirrored) (begin : ℕ) (bytes : List ℕ) (why : MirrorRefusal)
    → IsUnsigned rules before begin bytes why → ConsensusRefused rules before begin bytes why
unsigned rules before begin bytes (refusal.Document fault) is = is
unsigned rules before begin bytes refusal.WrongFlavour is = is
unsigned rules before begin bytes (refusal.Older than) is = is
unsigned rules before begin bytes refusal.VerifierFault is = is
unsigned rules before begin bytes (refusal.TooFewSigners counted roster) is = absurd is
unsigned rules before begin bytes refusal.Memory is = tt

-- a fault of a consensus that stands in an input from a place on has a place in the input
pub fits_behind : (begin : ℕ) (bytes : List ℕ) (why : ReadRefusal) → begin < 2 ^ 62 → length bytes < 2 ^ 62
    → Fails why (consensus_of bytes) → FitsBehind begin why
fits_behind begin bytes (read.Frame fault) near short is =
    let within : fault.place ≤ length bytes = consensus_within bytes fault is in
    omega (arith, near, short, within)
fits_behind begin bytes read.Memory near short is = tt

-- why it is not read is why it is no microdesc consensus
pub not_read : (begin : ℕ) (bytes : List ℕ) (why : ReadRefusal) → Fails why (consensus_of bytes)
    → IsNoMicrodesc begin bytes (of_read (refusal_behind begin why))
not_read begin bytes (read.Frame fault) is = (fault, is, refl)
not_read begin bytes read.Memory is = tt

-- one that a majority signed
pub taken : (rules : Rules) (before after : Mirrored) (bytes : List ℕ) (consensus : SignedConsensus) (signers : List SignerKey)
    (count : ℕ) (held : HeldConsensus) (rows : Rows) → IsSignedBy rules before bytes consensus signers
    → IsMajority count (length signers) (length before.roster)
    → held ≡ record { bytes = bytes; consensus = consensus; signers = signers } → rows ≡ rows_of before.rows (named consensus)
    → after ≡ record before { held = Some held; rows = rows } → TakesConsensus rules before bytes count after
taken rules before after bytes consensus signers count held rows signed majority held_is rows_are after_is = record {
  consensus = consensus;
  signers = signers;
  signed = signed;
  count_is = majority.count_is;
  majority = majority.majority;
  after_is =
      after_is ∙ ap (λ (h : HeldConsensus). record before { held = Some h; rows = rows }) held_is
      ∙ ap (λ (r : Rows). record before { held = Some (record { bytes = bytes; consensus = consensus; signers = signers }); rows = r }) rows_are;
}
