-- The microdescriptor of a relay with a server descriptor and a summary of its exit policy (dir-spec, "Computing
-- microdescriptors").
use Rattle.std.specs.Prelude.{ℕ, ◌==◌, Bool, false, not, ◌&&◌, List, [], ◌∷◌, ◌++◌, length, map, codes, Option, Some}
use Rattle.std.specs.{Prelude.{None, option_and_then, if◌then◌else◌}, Option.option_map}
use Rattle.dir_bytes.specs.FieldTexts.{base64_text}
use Rattle.dir_values.specs.{FlagSets.as_set, Ports.{Ports, last_port, summary_text}}
use Rattle.dir_values.specs.declared.{digest.Fingerprint.Fingerprint, port_range.PortRange.PortRange}
use Rattle.descriptor_frame.specs.{declared.certificate.EdCert.EdCert, Families.{family_of, family_text}}
use Rattle.descriptor_doc.specs.declared.descriptor.Descriptor.{Descriptor}
use Rattle.micro_desc.specs.declared.{said.MicroId.{MicroId, TheVariants.{Ed25519, Rsa1024}}, micro.Micro.Micro}

-- a family, where it has a name
abbrev pub unless_empty : List (List ℕ) → Option (List (List ℕ))
unless_empty family = if length family == 0 then None else Some family

-- the canonical family that names make, where a name is left
abbrev pub family_if : List (List ℕ) → Option (List (List ℕ))
family_if names = unless_empty (family_of names)

-- whether ranges are every port, as one range
abbrev pub is_every_port : List PortRange → Bool
is_every_port (range ∷ []) = range.low == 1 && range.high == last_port
is_every_port _ = false

-- whether a summary is `reject 1-65535`
abbrev pub rejects_all : Ports → Bool
rejects_all ports = not ports.accept && is_every_port ports.ranges

-- the text of a summary, unless it rejects all ports
abbrev pub summary_if : Ports → Option (List ℕ)
summary_if ports = if rejects_all ports then None else Some (summary_text ports)

-- whose microdescriptor it is: the signer of the Ed25519 certificate, or else the RSA identity
abbrev pub made_id : Option EdCert → Fingerprint → MicroId
made_id None identity = Rsa1024 identity
made_id (Some certificate) identity = Ed25519 certificate.signer

-- the microdescriptor of a relay with this server descriptor and this summary of its exit policy, by the methods before 35
abbrev pub micro_of_descriptor : Descriptor → Ports → Micro
micro_of_descriptor descriptor summary = record {
  onion_key = descriptor.onion_key;
  ntor_onion_key = descriptor.ntor_onion_key;
  family = option_and_then family_if descriptor.family;
  family_ids = None;
  p = summary_if summary;
  p6 = option_and_then summary_if descriptor.ipv6_policy;
  id = Some (made_id descriptor.identity_ed25519 descriptor.identity);
}

-- ---- from method 35 on

-- how a family is named: by its key, behind `ed25519:` and in base64 without `=`
abbrev pub family_id : List ℕ → List ℕ
family_id key = codes "ed25519:" ++ base64_text key

-- the families that certificates name: the set of their names, sorted by bytes
abbrev pub families_of : List EdCert → List (List ℕ)
families_of certs = as_set (map (λ (cert : EdCert). family_id cert.signer) certs)

-- the rest of the line `family-ids`, where the certificates name a family
abbrev pub ids_if : List EdCert → Option (List ℕ)
ids_if certs = option_map family_text (unless_empty (families_of certs))

-- the microdescriptor with this rest of the line `family-ids`
abbrev pub with_ids : Micro → List ℕ → Micro
with_ids micro ids = record micro { family_ids = Some ids }

-- the microdescriptor of method 35, where it is another: where the relay's family certificates name a family
abbrev pub micro_with_families : Descriptor → Ports → Option Micro
micro_with_families descriptor summary =
    option_map (with_ids (micro_of_descriptor descriptor summary)) (option_and_then ids_if descriptor.family_certs)
