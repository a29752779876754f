-- What the functions say that read and check one descriptor.
use Rattle.std.specs.Prelude.{◌≡◌, ℕ, ◌≤◌, ◌<◌, List, length, Result, Ok, Err}
use Rattle.count_terms.specs.declared.newest.Newest.{Newest}
use Rattle.frame_terms.specs.{Refusals.Fails, declared.fault.ReadRefusal.ReadRefusal}
use Rattle.frame_terms.specs.declared.fault.ReadRefusal.TheVariants as read
use Rattle.key_port.specs.Answers.{Rules}
use Rattle.descriptor_doc.specs.{Checks.{IsVerified, RefusedBy}, declared.checking.DescriptorRefusal.DescriptorRefusal}
use Rattle.descriptor_doc.specs.declared.descriptor.Descriptor.{Descriptor}
use Rattle.descriptor_doc.specs.declared.checking.DescriptorRefusal.TheVariants as descriptor
use Rattle.daemon_words.specs.declared.stop.Stop.{Stop}
use Rattle.daemon_words.specs.declared.stop.Stop.TheVariants as stop
use Rattle.station_commands.specs.{Descriptors.{clause_of, descriptor_from}, declared.refusal.PoolRefusal.PoolRefusal}
use Rattle.station_commands.specs.declared.refusal.PoolRefusal.TheVariants as refusal

-- what reading from a place on answers: the descriptor that stands there, which ends behind the place and within the input; or
-- the first fault, or want of memory
abbrev pub ReadsAt : Newest → ℕ → List ℕ → Result (Descriptor × ℕ) ReadRefusal → Type 0
ReadsAt newest place bytes (Ok (descriptor, next)) =
    (descriptor_from newest place bytes ≡ Ok (descriptor, next)) × (place < next) × (next ≤ length bytes)
ReadsAt newest place bytes (Err refusal) = Fails refusal (descriptor_from newest place bytes)

-- A descriptor stands there that does not hold, by this clause; or, where the verifier failed, of which it was asked.
pub record IsRefusedAt (rules : Rules) (newest : Newest) (place : ℕ) (bytes : List ℕ) (why : DescriptorRefusal) : Type 0 where
  pub descriptor : Descriptor
  pub next : ℕ
  pub stands : descriptor_from newest place bytes ≡ Ok (descriptor, next)
  pub fails : RefusedBy rules descriptor why

-- A descriptor stands there that holds, and ends behind the place and within the input.
pub record IsVerifiedAt (rules : Rules) (newest : Newest) (place : ℕ) (bytes : List ℕ) (descriptor : Descriptor) (next : ℕ) : Type 0 where
  pub stands : descriptor_from newest place bytes ≡ Ok (descriptor, next)
  pub verified : IsVerified rules descriptor
  pub further : place < next
  pub within : next ≤ length bytes

-- why nothing is kept of what stands at a place: it is no descriptor, or one that does not hold
abbrev pub StopsAt : Rules → Newest → ℕ → ℕ → List ℕ → Stop PoolRefusal → Type 0
StopsAt rules newest place number bytes stop.Memory = Unit {0}
StopsAt rules newest place number bytes (stop.Refused (refusal.Fault fault)) =
    descriptor_from newest place bytes ≡ Err (read.Frame fault)
StopsAt rules newest place number bytes (stop.Refused (refusal.Descriptor k why)) =
    (k ≡ number) × IsRefusedAt rules newest place bytes (clause_of why)
StopsAt rules newest place number bytes (stop.Refused refusal.Verifier) = IsRefusedAt rules newest place bytes descriptor.VerifierFault
StopsAt rules newest place number bytes (stop.Refused refusal.Full) = ⊥

-- what is kept of the descriptor that stands at a place and has this number, or why nothing is
abbrev pub GivesEntry : Rules → Newest → ℕ → ℕ → List ℕ → Result (Descriptor × ℕ) (Stop PoolRefusal) → Type 0
GivesEntry rules newest place number bytes (Ok (descriptor, next)) = IsVerifiedAt rules newest place bytes descriptor next
GivesEntry rules newest place number bytes (Err why) = StopsAt rules newest place number bytes why
