-- What reading a certificate and a microdescriptor answers, as of any kind of document, and what is told of a fault there.
use Rattle.std.proofs.Common.{◌≡◌, ℕ, ◌+◌, ◌-◌, ◌<◌, ◌≤◌, List, length, take, drop, Result, Ok, Err, ap, subst, ◌∙◌}
use Rattle.std.{proofs.{Common.{arith, length-drop}, lemmas.List.take_rest}, specs.Prelude.{◌^◌, IfErr}}
use Rattle.frame_terms.specs.declared.fault.{FrameFault.FrameFault, ReadRefusal.ReadRefusal}
use Rattle.frame_terms.specs.declared.fault.ReadRefusal.TheVariants as read
use Rattle.authority_certs.specs.{Reading.{ReadsCert, cert_of}, declared.cert.Cert.Cert}
use Rattle.micro_desc.specs.{Reading.{ReadsMicro, micro_of}, declared.micro.Micro.Micro}
use Rattle.document_faults.proofs.DocumentFaults.{cert_within, micro_within}
use Rattle.mirror_core.{proofs.SomeBytes.{certs_have, micros_have}, specs.Reads.{IsWithin, ReadsOne}}

pub reads_cert : (bytes : List ℕ) (read : Result (Cert × ℕ) ReadRefusal) → 0 < length bytes → ReadsCert bytes read
    → ReadsOne cert_of bytes read
reads_cert bytes (Ok (cert, used)) some reads = (reads.0, certs_have bytes cert used some reads.0, reads.1)
reads_cert bytes (Err refusal) some reads = reads

pub reads_micro : (bytes : List ℕ) (read : Result (Micro × ℕ) ReadRefusal) → 0 < length bytes → ReadsMicro bytes read
    → ReadsOne micro_of bytes read
reads_micro bytes (Ok (micro, used)) some reads = (reads.0, micros_have bytes micro used some reads.0, reads.1)
reads_micro bytes (Err refusal) some reads = reads

-- ---- a fault

pub cert_fault : (bytes : List ℕ) (answer : Result (Cert × ℕ) ReadRefusal) → ReadsCert bytes answer
    → IfErr answer (IsWithin (length bytes))
cert_fault bytes (Ok found) reads = tt
cert_fault bytes (Err (read.Frame fault)) reads = cert_within bytes fault reads
cert_fault bytes (Err read.Memory) reads = tt

pub micro_fault : (bytes : List ℕ) (answer : Result (Micro × ℕ) ReadRefusal) → ReadsMicro bytes answer
    → IfErr answer (IsWithin (length bytes))
micro_fault bytes (Ok found) reads = tt
micro_fault bytes (Err (read.Frame fault)) reads = micro_within bytes fault reads
micro_fault bytes (Err read.Memory) reads = tt

-- a fault within the bytes from a place on has a place in the input
pub fits_there : (bytes : List ℕ) (place : ℕ) (why : ReadRefusal) (fault : FrameFault) → place < length bytes
    → length bytes < 2 ^ 32 → why ≡ read.Frame fault
    → IsWithin (length (take (length bytes - place) (drop place bytes))) why → place + fault.place < 2 ^ 64
fits_there bytes place why fault some short is within =
    let rest = take (length bytes - place) (drop place bytes) in
    let size : length rest ≡ length bytes - place =
    ap (λ (l : List ℕ). length l) (take_rest bytes place) ∙ length-drop place bytes in
    let there : fault.place ≤ length rest = subst (IsWithin (length rest)) is within in
    omega (arith, there, size, some, short)
