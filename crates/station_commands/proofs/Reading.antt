-- What is read at a place of the input.
use Rattle.std.proofs.Common.{◌≡◌, ℕ, ◌+◌, ◌<◌, ◌≤◌, List, length, drop, take, Ok, Err, refl, ap, sym, subst, ◌∙◌}
use Rattle.std.{proofs.{Common.arith, lemmas.{List.take_rest, Grind.common_steps}}, specs.Prelude.{◌-◌, ◌^◌}}
use Rattle.count_terms.specs.declared.newest.Newest.{Newest}
use Rattle.key_port.specs.Answers.{Rules}
use Rattle.frame_terms.specs.declared.fault.ReadRefusal.{ReadRefusal}
use Rattle.frame_terms.specs.declared.fault.ReadRefusal.TheVariants as read
use Rattle.descriptor_doc.specs.{Checks.{IsVerified, RefusedBy}, Reading.{ReadsUnder, descriptor_under}}
use Rattle.descriptor_doc.specs.declared.checking.DescriptorRefusal.{DescriptorRefusal}
use Rattle.descriptor_doc.{specs.declared.descriptor.Descriptor.Descriptor, proofs.ReadUnder.own_fails}
use Rattle.descriptor_doc.specs.declared.checking.DescriptorRefusal.TheVariants as descriptor
use Rattle.daemon_words.specs.declared.stop.Stop.TheVariants as stop
use Rattle.station_laws.proofs.InputFaults.{descriptor_within}
use Rattle.station_commands.specs.declared.refusal.PoolRefusal.TheVariants as refusal
use Rattle.blank_lines.specs.Behind.{FitsBehind, refusal_behind}
use Rattle.station_commands.specs.{Descriptors.{descriptor_from, found_from}, Reads.{IsVerifiedAt, ReadsAt, StopsAt}}
use Rattle.station_commands.specs.Told.{descriptor_refused}

-- the bytes from a place on
pub rest_is : (place : ℕ) (bytes : List ℕ) → take (length bytes - place) (drop place bytes) ≡ drop place bytes
rest_is place bytes = take_rest bytes place

-- a descriptor that was read there
pub read_there : (newest : Newest) (place : ℕ) (bytes rest : List ℕ) (d : Descriptor) (used : ℕ) → rest ≡ drop place bytes
    → place ≤ length bytes → ReadsUnder newest rest (Ok (d, used)) → 0 < used
    → ReadsAt newest place bytes (Ok (d, place + used))
read_there newest place bytes rest d used is within reads some =
    let of_rest : descriptor_under newest (drop place bytes) ≡ Ok (d, used) =
    ap (descriptor_under newest) (sym is) ∙ reads.0 in
    let size : length rest ≡ length bytes - place = rw is (grind (arith, common_steps)) in (
      ap (found_from place) of_rest,
      omega (arith, some),
      omega (arith, reads.1, size, within),
    )

-- a fault of what stands there
pub fails_there : (newest : Newest) (place : ℕ) (bytes rest : List ℕ) (why : ReadRefusal) → rest ≡ drop place bytes
    → ReadsUnder newest rest (Err why) → ReadsAt newest place bytes (Err (refusal_behind place why))
fails_there newest place bytes rest (read.Frame fault) is reads =
    ap (found_from place) (ap (descriptor_under newest) (sym is) ∙ reads)
fails_there newest place bytes rest read.Memory is reads = tt

-- whose place in the input is a number of 64 bits
pub fits_there : (newest : Newest) (place : ℕ) (bytes rest : List ℕ) (why : ReadRefusal) → rest ≡ drop place bytes
    → place ≤ length bytes → length bytes < 2 ^ 61 → ReadsUnder newest rest (Err why) → FitsBehind place why
fits_there newest place bytes rest (read.Frame fault) is within short reads =
    let size : length rest ≡ length bytes - place = rw is (grind (arith, common_steps)) in
    omega (arith, descriptor_within rest fault (own_fails newest rest (read.Frame fault) reads), size, within, short)
fits_there newest place bytes rest read.Memory is within short reads = tt

-- a descriptor that does not hold stops keeping
pub stops_checking : (rules : Rules) (newest : Newest) (place number : ℕ) (bytes : List ℕ) (d : Descriptor) (next : ℕ)
    (why : DescriptorRefusal) → descriptor_from newest place bytes ≡ Ok (d, next) → RefusedBy rules d why
    → StopsAt rules newest place number bytes (stop.Refused (descriptor_refused number why))
stops_checking rules newest place number bytes d next descriptor.IdentityMismatch stands fails =
    (refl, record { descriptor = d; next = next; stands = stands; fails = fails })
stops_checking rules newest place number bytes d next descriptor.BadSignature stands fails =
    (refl, record { descriptor = d; next = next; stands = stands; fails = fails })
stops_checking rules newest place number bytes d next descriptor.BadEdSignature stands fails =
    (refl, record { descriptor = d; next = next; stands = stands; fails = fails })
stops_checking rules newest place number bytes d next descriptor.VerifierFault stands fails =
    record { descriptor = d; next = next; stands = stands; fails = fails }

-- what is told of the verifier is that it failed
pub told_of_verifier : (number : ℕ) (why : DescriptorRefusal)
    → descriptor_refused number why ≡ refusal.Verifier → why ≡ descriptor.VerifierFault
told_of_verifier number descriptor.IdentityMismatch is = absurd (cc is)
told_of_verifier number descriptor.BadSignature is = absurd (cc is)
told_of_verifier number descriptor.BadEdSignature is = absurd (cc is)
told_of_verifier number descriptor.VerifierFault is = refl

-- what is kept of a descriptor that was read there, and holds
pub holds_there : (rules : Rules) (newest : Newest) (place : ℕ) (bytes : List ℕ) (d kept : Descriptor) (next : ℕ)
    → ReadsAt newest place bytes (Ok (d, next)) → IsVerified rules d → kept ≡ d
    → IsVerifiedAt rules newest place bytes kept next
holds_there rules newest place bytes d kept next there verified same =
    subst (λ (o : Descriptor). IsVerifiedAt rules newest place bytes o next) (sym same)
    (record { stands = there.0; verified = verified; further = there.1; within = there.2 })
