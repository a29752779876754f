-- What is made of a descriptor (dir-spec, "Computing microdescriptors").
use Rattle.std.specs.{Prelude.{◌≡◌, ℕ, List, Option, Some, None}, Option.option_map}
use Rattle.dir_values.specs.{Ports.Ports, declared.digest.Digest2.Digest2}
use Rattle.exit_summary.specs.Summaries.{summary_of}
use Rattle.descriptor_doc.specs.declared.descriptor.Descriptor.{Descriptor}
use Rattle.micro_desc.specs.{Makings.{micro_of_descriptor, micro_with_families}, Texts.{digest_of, micro_text}}
use Rattle.micro_desc.specs.declared.micro.Micro.{Micro}
use Rattle.vote_pool.specs.declared.entry.FamilyMicro.{FamilyMicro}

-- ---- by the methods before 35

-- the text of the microdescriptor of a descriptor and a summary
abbrev pub micro_text_with : Descriptor → Ports → List ℕ
micro_text_with descriptor summary = micro_text (micro_of_descriptor descriptor summary)

-- the text of the microdescriptor of a descriptor and the summary of its exit policy
abbrev pub micro_text_of : Descriptor → List ℕ
micro_text_of descriptor = micro_text_with descriptor (summary_of descriptor.policy)

-- the digest of that text
abbrev pub micro_digest_of : Descriptor → Digest2
micro_digest_of descriptor = digest_of (micro_text_of descriptor)

-- ---- by method 35

-- the text and the digest of a microdescriptor
abbrev pub with_digest : Micro → FamilyMicro
with_digest micro = record { text = micro_text micro; digest = digest_of (micro_text micro) }

-- those of the microdescriptor with families of a descriptor and a summary, where there is one
abbrev pub family_micro_with : Descriptor → Ports → Option FamilyMicro
family_micro_with descriptor summary = option_map with_digest (micro_with_families descriptor summary)

-- the same of a descriptor and the summary of its exit policy
abbrev pub family_micro_of : Descriptor → Option FamilyMicro
family_micro_of descriptor = family_micro_with descriptor (summary_of descriptor.policy)

-- its text, or that of the other microdescriptor where there is none
abbrev pub text_or : Option FamilyMicro → List ℕ → List ℕ
text_or None text = text
text_or (Some micro) text = micro.text

-- its digest, or that of the other
abbrev pub digest_or : Option FamilyMicro → Digest2 → Digest2
digest_or None digest = digest
digest_or (Some micro) digest = micro.digest

-- the text of a descriptor's microdescriptor by method 35
abbrev pub family_text_of : Descriptor → List ℕ
family_text_of descriptor = text_or (family_micro_of descriptor) (micro_text_of descriptor)

-- its digest
abbrev pub family_digest_of : Descriptor → Digest2
family_digest_of descriptor = digest_or (family_micro_of descriptor) (micro_digest_of descriptor)

-- ---- what is kept

-- These are the summary of a descriptor's exit policy, the text and the digest of its microdescriptor, and those of the one
-- with families, where there is one.
pub record IsPrepared (descriptor : Descriptor) (summary : Ports) (micro : List ℕ) (digest : Digest2)
    (family : Option FamilyMicro) : Type 0 where
  pub summary_is : summary ≡ summary_of descriptor.policy
  pub micro_is : micro ≡ micro_text_of descriptor
  pub digest_is : digest ≡ micro_digest_of descriptor
  pub family_is : family ≡ family_micro_of descriptor
