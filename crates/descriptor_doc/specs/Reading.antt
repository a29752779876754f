-- The descriptor that bytes begin with, or their first fault (dir-spec, "Server descriptor format").
use Rattle.std.specs.Prelude.{◌≡◌, ℕ, ◌+◌, ◌-◌, ◌≤◌, ◌==◌, List, [], ◌∷◌, ◌++◌, drop, length, take, Option, unwrap_or}
use Rattle.std.specs.Prelude.{option_map, Result, Ok, Err, if◌then◌else◌}
use Rattle.dir_values.specs.{Digests.fingerprint_text, declared.digest.Fingerprint.Fingerprint}
use Rattle.count_terms.specs.declared.newest.Newest.{Newest, TheVariants.{Method33, Method34, Method35}}
use Rattle.item_terms.specs.Items.{items_of}
use Rattle.frame_terms.specs.{declared.fault.ReadRefusal.ReadRefusal, Documents.{document_of, finish}, Refusals.Fails}
use Rattle.blank_lines.specs.{Behind.refusal_behind, Blanks.after_blanks}
use Rattle.descriptor_frame.specs.{Tables.descriptor_tables, declared.certificate.EdCert.EdCert}
use Rattle.descriptor_doc.specs.{declared.{descriptor.Descriptor.Descriptor, kept.Kept.Kept}, Heads.none_kept}
use Rattle.descriptor_doc.specs.{Heads.kept_with, Descriptors.descriptor_in, FamilyCerts.family_certs_of}

-- how many bytes a descriptor may have, with the blank lines before it
abbrev pub max_descriptor : ℕ
max_descriptor = 65536

-- how many bytes of blank lines stand before it; none, where nothing but blanks stands within as many bytes as it may have
abbrev pub front_of : List ℕ → ℕ
front_of bytes = unwrap_or (after_blanks 0 (take max_descriptor bytes)) 0

-- what is kept of the descriptor that its own bytes begin with, of which it has at most so many, and the place after it; or the
-- first fault
abbrev pub own_kept : ℕ → List ℕ → Result (Kept × ℕ) ReadRefusal
own_kept limit bytes = finish kept_with none_kept (document_of descriptor_tables (length bytes) (items_of limit bytes))

-- what the descriptor says, in its own bytes, of which this was kept; these stand behind so many others
abbrev pub with_descriptor : ℕ → List ℕ → Result (Kept × ℕ) ReadRefusal → Result (Descriptor × ℕ) ReadRefusal
with_descriptor n bytes (Ok (kept, end)) = Ok (descriptor_in (take end bytes) kept, n + end)
with_descriptor n bytes (Err refusal) = Err (refusal_behind n refusal)

-- the descriptor that stands behind so many bytes, and the place after it; or the first fault
abbrev pub descriptor_behind : ℕ → List ℕ → Result (Descriptor × ℕ) ReadRefusal
descriptor_behind n bytes = with_descriptor n (drop n bytes) (own_kept (max_descriptor - n) (drop n bytes))

-- the descriptor that the bytes begin with, behind blank lines if there are some, and the place after it; or the first fault
abbrev pub descriptor_of : List ℕ → Result (Descriptor × ℕ) ReadRefusal
descriptor_of bytes = descriptor_behind (front_of bytes) bytes

-- what keeping answers: all that is kept of that descriptor, which is within the bytes; or the first fault, or want of memory
abbrev pub KeepsDescriptor : ℕ → List ℕ → Result (Kept × ℕ) ReadRefusal → Type 0
KeepsDescriptor limit bytes (Ok (kept, end)) = (own_kept limit bytes ≡ Ok (kept, end)) × (end ≤ length bytes)
KeepsDescriptor limit bytes (Err refusal) = Fails refusal (own_kept limit bytes)

-- what reading answers: that descriptor, which is within the bytes; or the first fault, or want of memory
abbrev pub ReadsDescriptor : List ℕ → Result (Descriptor × ℕ) ReadRefusal → Type 0
ReadsDescriptor bytes (Ok (descriptor, used)) = (descriptor_of bytes ≡ Ok (descriptor, used)) × (used ≤ length bytes)
ReadsDescriptor bytes (Err refusal) = Fails refusal (descriptor_of bytes)

-- ---- by what an authority knows

-- the family certificates that a descriptor's text says; none at all, where one of its items `family-cert` says none
abbrev pub family_certs_in : List ℕ → Option (List EdCert)
family_certs_in text = family_certs_of (items_of max_descriptor (take max_descriptor text)).items

-- the names of a family with the relay's own, where there is one
abbrev pub with_itself : Fingerprint → List (List ℕ) → List (List ℕ)
with_itself identity names = if length names == 0 then names else names ++ fingerprint_text identity ∷ []

-- the descriptor with the relay in its family
abbrev pub in_its_family : Descriptor → Descriptor
in_its_family d = record d { family = option_map (with_itself d.identity) d.family }

-- the descriptor as an authority reads it whose newest method is this: from method 34 on with the relay in its family, and from
-- 35 on with its family certificates
abbrev pub as_read : Newest → Descriptor → Descriptor
as_read Method33 d = d
as_read Method34 d = in_its_family d
as_read Method35 d = record (in_its_family d) { family_certs = family_certs_in d.text }

-- the same of what was read
abbrev pub read_under : Newest → Result (Descriptor × ℕ) ReadRefusal → Result (Descriptor × ℕ) ReadRefusal
read_under newest (Ok (d, used)) = Ok (as_read newest d, used)
read_under newest (Err refusal) = Err refusal

-- the descriptor that the bytes begin with, as such an authority reads it, and the place after it; or the first fault
abbrev pub descriptor_under : Newest → List ℕ → Result (Descriptor × ℕ) ReadRefusal
descriptor_under newest bytes = read_under newest (descriptor_of bytes)

-- what reading so answers: that descriptor, which is within the bytes; or the first fault, or want of memory
abbrev pub ReadsUnder : Newest → List ℕ → Result (Descriptor × ℕ) ReadRefusal → Type 0
ReadsUnder newest bytes (Ok (descriptor, used)) =
    (descriptor_under newest bytes ≡ Ok (descriptor, used)) × (used ≤ length bytes)
ReadsUnder newest bytes (Err refusal) = Fails refusal (descriptor_under newest bytes)

-- the descriptor was read: some bytes begin with it, as an authority with some newest method reads it
pub record IsRead (descriptor : Descriptor) : Type 0 where
  pub newest : Newest
  pub input : List ℕ
  pub used : ℕ
  pub read : descriptor_under newest input ≡ Ok (descriptor, used)
