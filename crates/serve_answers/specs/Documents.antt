-- The documents that an authority gives besides single votes and consensuses (dir-spec, "General-use HTTP URLs").
use Rattle.std.specs.{Prelude.{ℕ, Bool, ◌||◌, List, [], Option, Some, None, if◌then◌else◌}, List.{find, flat_map}}
use Rattle.std.specs.Str.{bytes_eq}
use Rattle.vote_terms.specs.Votes.{ReadVote}
use Rattle.descriptor_doc.specs.declared.descriptor.Descriptor.{Descriptor}
use Rattle.vote_pool.specs.Summaries.{family_digest_of, family_text_of, micro_digest_of, micro_text_of}

-- the certificates of votes, in the bytes that stand in them
abbrev pub certificates_of : List ReadVote → List ℕ
certificates_of votes = flat_map (λ (vote : ReadVote). vote.certificate_bytes) votes

-- the bytes of one, or none
abbrev pub certificate_if : Option ReadVote → List ℕ
certificate_if None = []
certificate_if (Some vote) = vote.certificate_bytes

-- descriptors, in the bytes that were read
abbrev pub descriptors_of : List Descriptor → List ℕ
descriptors_of descriptors = flat_map (λ (descriptor : Descriptor). descriptor.text) descriptors

-- those of one, or none
abbrev pub descriptor_if : Option Descriptor → List ℕ
descriptor_if None = []
descriptor_if (Some descriptor) = descriptor.text

-- whether a microdescriptor of a descriptor has a digest: that by the methods before 35, or that by 35
abbrev pub has_digest : List ℕ → Descriptor → Bool
has_digest digest descriptor =
    bytes_eq (micro_digest_of descriptor).0 digest || bytes_eq (family_digest_of descriptor).0 digest

-- the text of the first of both that has it
abbrev pub text_with : List ℕ → Descriptor → List ℕ
text_with digest descriptor =
    if bytes_eq (micro_digest_of descriptor).0 digest then micro_text_of descriptor else family_text_of descriptor

-- the same of a descriptor, or none
abbrev pub micro_if : List ℕ → Option Descriptor → List ℕ
micro_if digest None = []
micro_if digest (Some descriptor) = text_with digest descriptor

-- the first microdescriptor with a digest, or none
abbrev pub micro_with : List Descriptor → List ℕ → List ℕ
micro_with descriptors digest = micro_if digest (find (has_digest digest) descriptors)

-- the microdescriptors with digests, in the order of these
abbrev pub micros_with : List Descriptor → List (List ℕ) → List ℕ
micros_with descriptors digests = flat_map (micro_with descriptors) digests
