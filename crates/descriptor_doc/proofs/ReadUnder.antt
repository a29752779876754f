-- The descriptor as an authority reads it, and what was read of its items alone.
use Rattle.std.proofs.Common.{◌≡◌, ℕ, List, Result, Ok, Err, refl, sym, ap, ◌∙◌}
use Rattle.count_terms.specs.declared.newest.Newest.{Newest}
use Rattle.frame_terms.specs.declared.fault.ReadRefusal.{ReadRefusal, TheVariants.{Frame, Memory}}
use Rattle.descriptor_doc.specs.{declared.descriptor.Descriptor.Descriptor, Reading.{ReadsDescriptor, ReadsUnder}}
use Rattle.descriptor_doc.specs.Reading.{as_read, descriptor_of, descriptor_under, read_under}

abbrev answer : Descriptor → ℕ → Result (Descriptor × ℕ) ReadRefusal
answer d used = Ok (d, used)

-- ---- from what was read of its items

-- there is one
pub reads_under : (newest : Newest) (bytes : List ℕ) (d read : Descriptor) (used : ℕ) → ReadsDescriptor bytes (Ok (d, used))
    → read ≡ as_read newest d → ReadsUnder newest bytes (Ok (read, used))
reads_under newest bytes d read used reads is =
    (ap (read_under newest) reads.0 ∙ ap (λ (o : Descriptor). answer o used) (sym is), reads.1)

-- there is none
pub fails_under : (newest : Newest) (bytes : List ℕ) (why : ReadRefusal) → ReadsDescriptor bytes (Err why)
    → ReadsUnder newest bytes (Err why)
fails_under newest bytes (Frame fault) fails = ap (read_under newest) fails
fails_under newest bytes Memory fails = tt

-- ---- back to it

abbrev which : Descriptor → Result (Descriptor × ℕ) ReadRefusal → Descriptor
which other (Ok found) = found.0
which other (Err why) = other

abbrev place_behind_read : Result (Descriptor × ℕ) ReadRefusal → ℕ
place_behind_read (Ok found) = found.1
place_behind_read (Err why) = 0

abbrev fault_in : ReadRefusal → Result (Descriptor × ℕ) ReadRefusal → ReadRefusal
fault_in other (Ok found) = other
fault_in other (Err why) = why

-- what was read of the items of a descriptor that was read so
pub record OwnRead (newest : Newest) (bytes : List ℕ) (d : Descriptor) (used : ℕ) : Type 0 where
  pub own : Descriptor
  pub read : descriptor_of bytes ≡ Ok (own, used)
  pub same : d ≡ as_read newest own

pub own_read : (newest : Newest) (bytes : List ℕ) (d : Descriptor) (used : ℕ) → descriptor_under newest bytes ≡ Ok (d, used)
    → OwnRead newest bytes d used
own_read newest bytes d used is = by (descriptor_of bytes) refl is
  where
    by : (read : Result (Descriptor × ℕ) ReadRefusal) → descriptor_of bytes ≡ read → read_under newest read ≡ Ok (d, used)
        → OwnRead newest bytes d used
    by (Ok (own, end)) there e = record {
      own = own;
      read = there ∙ ap (λ (n : ℕ). answer own n) (ap place_behind_read e);
      same = sym (ap (which own) e);
    }
    by (Err why) there e = absurd (cc e)

-- a fault is one of its items
pub own_fails : (newest : Newest) (bytes : List ℕ) (why : ReadRefusal) → descriptor_under newest bytes ≡ Err why
    → descriptor_of bytes ≡ Err why
own_fails newest bytes why is = by (descriptor_of bytes) refl is
  where
    refused : ReadRefusal → Result (Descriptor × ℕ) ReadRefusal
    refused one = Err one

    by : (read : Result (Descriptor × ℕ) ReadRefusal) → descriptor_of bytes ≡ read → read_under newest read ≡ Err why
        → descriptor_of bytes ≡ Err why
    by (Ok (own, end)) there e = absurd (cc e)
    by (Err other) there e = there ∙ ap refused (ap (fault_in why) e)
