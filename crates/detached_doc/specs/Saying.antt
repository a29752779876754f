-- What items of detached signatures alone say. The tables see to it that each item is there which has to stand; where one
-- is not, or says something else, its value is nothing.
use Rattle.std.specs.{Prelude.{List, Option, Some, None}, List.filter_map}
use Rattle.dir_values.specs.declared.digest.Digest1.{Digest1}
use Rattle.frame_terms.specs.declared.document.Taken.{Taken}
use Rattle.frame_values.specs.{declared.values.Value.Value, Values.{no_digest, own_in}}
use Rattle.frame_values.specs.declared.values.Value.TheVariants as value
use Rattle.detached_frame.specs.declared.said.{AdditionalDigestLine.AdditionalDigestLine, DetachedValue.DetachedValue}
use Rattle.detached_frame.specs.declared.said.DetachedValue.TheVariants.{Digest, AdditionalDigest, AdditionalSignature}
use Rattle.detached_frame.specs.declared.said.DetachedValue.TheVariants.{Signature}
use Rattle.detached_doc.specs.declared.said.SignedLine.{SignedLine, TheVariants.{Plain, Additional}}

-- the digest of a consensus that a value is
abbrev pub digest_of_value : Option DetachedValue → Digest1
digest_of_value (Some (Digest digest)) = digest
digest_of_value _ = record { 0 = no_digest }

-- the digest of a consensus that an item says
abbrev pub digest_in : Option (Taken (Value DetachedValue)) → Digest1
digest_in item = digest_of_value (own_in item)

-- the digest of another flavour that a value is
abbrev pub digest_if : Value DetachedValue → Option AdditionalDigestLine
digest_if (value.Own (AdditionalDigest line)) = Some line
digest_if _ = None

-- the digests of other flavours, in their order
abbrev pub digests_in : List (Taken (Value DetachedValue)) → List AdditionalDigestLine
digests_in taken = filter_map (λ (one : Taken (Value DetachedValue)). digest_if one.value) taken

-- the signature that a value is; a `directory-signature` of an unknown algorithm is none
abbrev pub line_if : Value DetachedValue → Option SignedLine
line_if (value.Own (Signature (Some signature))) = Some (Plain signature)
line_if (value.Own (AdditionalSignature line)) = Some (Additional line)
line_if _ = None

-- the signatures, in their order
abbrev pub lines_in : List (Taken (Value DetachedValue)) → List SignedLine
lines_in taken = filter_map (λ (one : Taken (Value DetachedValue)). line_if one.value) taken
