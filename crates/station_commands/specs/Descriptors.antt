-- The descriptors behind what a station is given, checked and kept one by one.
use Rattle.std.specs.Prelude.{◌≡◌, ℕ, ◌+◌, Bool, true, false, ◌||◌, List, [], ◌∷◌, length, drop, All, Result, Ok, Err}
use Rattle.count_terms.specs.declared.newest.Newest.{Newest}
use Rattle.blank_lines.specs.{Behind.refusal_behind, Ends.ends_at}
use Rattle.frame_terms.specs.declared.fault.{FrameFault.FrameFault, ReadRefusal.ReadRefusal}
use Rattle.frame_terms.specs.declared.fault.ReadRefusal.TheVariants as read
use Rattle.key_port.specs.Answers.{Rules}
use Rattle.descriptor_doc.specs.{Checks.{IsVerified, RefusedBy}, Reading.descriptor_under}
use Rattle.descriptor_doc.specs.declared.checking.DescriptorRefusal.{DescriptorRefusal}
use Rattle.descriptor_doc.specs.declared.descriptor.Descriptor.{Descriptor}
use Rattle.descriptor_doc.specs.declared.checking.DescriptorRefusal.TheVariants as descriptor
use Rattle.vote_pool.specs.{Pools.{Pooled, answer_to, pool_after}, declared.answers.Keep.Keep}
use Rattle.vote_pool.specs.declared.answers.Keep.TheVariants as keep
use Rattle.daemon_words.specs.declared.stop.Stop.{Stop}
use Rattle.daemon_words.specs.declared.stop.Stop.TheVariants as stop
use Rattle.station_commands.specs.declared.refusal.{DescriptorWord.DescriptorWord, PoolRefusal.PoolRefusal}
use Rattle.station_commands.specs.declared.refusal.DescriptorWord.TheVariants as fails
use Rattle.station_commands.specs.declared.refusal.PoolRefusal.TheVariants as refusal

-- ---- a descriptor in the input

-- what was read from a place on, by its places in the input
abbrev pub found_from : ℕ → Result (Descriptor × ℕ) ReadRefusal → Result (Descriptor × ℕ) ReadRefusal
found_from place (Ok found) = Ok (found.0, place + found.1)
found_from place (Err refusal) = Err (refusal_behind place refusal)

-- the descriptor that stands in the input from a place on, as an authority reads it whose newest method is this, and the place
-- behind it; or the first fault
abbrev pub descriptor_from : Newest → ℕ → List ℕ → Result (Descriptor × ℕ) ReadRefusal
descriptor_from newest place bytes = found_from place (descriptor_under newest (drop place bytes))

-- These descriptors stand in the input from a place on, one behind the other, and what follows stands from the last place
-- on.
abbrev pub Stand : Newest → ℕ → List Descriptor → ℕ → List ℕ → Type 0
Stand newest place [] last bytes = last ≡ place
Stand newest place (one ∷ descriptors) last bytes =
    (ends_at place bytes ≡ false) × (next : ℕ) × (descriptor_from newest place bytes ≡ Ok (one, next))
    × Stand newest next descriptors last bytes

-- These descriptors stand there, and each of them holds.
pub record Hold (rules : Rules) (newest : Newest) (start : ℕ) (bytes : List ℕ) (descriptors : List Descriptor) (last : ℕ)
    : Type 0 where
  pub stand : Stand newest start descriptors last bytes
  pub verified : All (IsVerified rules) descriptors

-- ---- the pool

-- the pool that holds no descriptor yet
abbrev pub no_pool : Pooled
no_pool = record { descriptors = []; changes = 0 }

-- the pool after these descriptors were kept in turn
abbrev pub pool_with : Pooled → List Descriptor → Pooled
pool_with pool [] = pool
pool_with pool (one ∷ descriptors) = pool_with (pool_after pool one) descriptors

-- whether an answer is that the pool is full
abbrev pub is_pool_full : Keep → Bool
is_pool_full keep.PoolFull = true
is_pool_full _ = false

-- whether a descriptor finds the pool full
abbrev pub is_full : Pooled → Descriptor → Bool
is_full pool one = is_pool_full (answer_to pool one)

-- the pool after a descriptor was kept, or was not
abbrev pub kept_pool : Pooled → Descriptor → Pooled
kept_pool pool one = pool_after pool one

-- whether one of these descriptors, kept in turn, finds the pool full
abbrev pub finds_full : Pooled → List Descriptor → Bool
finds_full pool [] = false
finds_full pool (one ∷ descriptors) = is_full pool one || finds_full (pool_after pool one) descriptors

-- ---- what is answered

-- The descriptors that stand in the input from a place on to its end, each of which holds, and none of which finds the pool
-- full, make this pool.
pub record IsPoolOf (rules : Rules) (newest : Newest) (start : ℕ) (bytes : List ℕ) (pool : Pooled) : Type 0 where
  pub descriptors : List Descriptor
  pub last : ℕ
  pub hold : Hold rules newest start bytes descriptors last
  pub ended : ends_at last bytes ≡ true
  pub room : finds_full no_pool descriptors ≡ false
  pub pool_is : pool ≡ pool_with no_pool descriptors

-- One of them finds it full.
pub record FillsPool (rules : Rules) (newest : Newest) (start : ℕ) (bytes : List ℕ) : Type 0 where
  pub descriptors : List Descriptor
  pub last : ℕ
  pub hold : Hold rules newest start bytes descriptors last
  pub ended : ends_at last bytes ≡ true
  pub full : finds_full no_pool descriptors ≡ true

-- Behind descriptors that hold something stands that is none, by this fault.
pub record IsNoDescriptor (rules : Rules) (newest : Newest) (start : ℕ) (bytes : List ℕ) (fault : FrameFault) : Type 0 where
  pub descriptors : List Descriptor
  pub last : ℕ
  pub hold : Hold rules newest start bytes descriptors last
  pub more : ends_at last bytes ≡ false
  pub fails : descriptor_from newest last bytes ≡ Err (read.Frame fault)

-- Behind descriptors that hold one stands that does not, by this clause; or, where the verifier failed, of which it was
-- asked.
pub record IsFirstRefused (rules : Rules) (newest : Newest) (start : ℕ) (bytes : List ℕ) (number : ℕ) (why : DescriptorRefusal)
    : Type 0 where
  pub descriptors : List Descriptor
  pub last : ℕ
  pub hold : Hold rules newest start bytes descriptors last
  pub more : ends_at last bytes ≡ false
  pub descriptor : Descriptor
  pub next : ℕ
  pub stands : descriptor_from newest last bytes ≡ Ok (descriptor, next)
  pub number_is : number ≡ length descriptors + 1
  pub fails : RefusedBy rules descriptor why

-- the clause that a word names
abbrev pub clause_of : DescriptorWord → DescriptorRefusal
clause_of fails.Identity = descriptor.IdentityMismatch
clause_of fails.Signature = descriptor.BadSignature
clause_of fails.Ed25519 = descriptor.BadEdSignature

-- why the descriptors of an input are refused: the first fault, or the first that does not hold; or that the verifier was
-- asked of one; or, behind all of them, that the pool is full
abbrev pub RefusesDescriptors : Rules → Newest → ℕ → List ℕ → PoolRefusal → Type 0
RefusesDescriptors rules newest start bytes (refusal.Fault fault) = IsNoDescriptor rules newest start bytes fault
RefusesDescriptors rules newest start bytes (refusal.Descriptor number why) =
    IsFirstRefused rules newest start bytes number (clause_of why)
RefusesDescriptors rules newest start bytes refusal.Verifier =
    (number : ℕ) × IsFirstRefused rules newest start bytes number descriptor.VerifierFault
RefusesDescriptors rules newest start bytes refusal.Full = FillsPool rules newest start bytes

-- the pool of the descriptors of an input, or why there is none, or there was no memory
abbrev pub GivesPool : Rules → Newest → ℕ → List ℕ → Result Pooled (Stop PoolRefusal) → Type 0
GivesPool rules newest start bytes (Ok pool) = IsPoolOf rules newest start bytes pool
GivesPool rules newest start bytes (Err stop.Memory) = Unit {0}
GivesPool rules newest start bytes (Err (stop.Refused why)) = RefusesDescriptors rules newest start bytes why
