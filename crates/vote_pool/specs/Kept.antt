-- What a pool keeps of a descriptor.
use Rattle.std.specs.Prelude.{◌≡◌, ℕ, List, Option, Some, None, is_some}
use Rattle.dir_values.specs.{Ports.Ports, declared.digest.Digest2.Digest2}
use Rattle.descriptor_frame.specs.declared.certificate.EdCert.{EdCert}
use Rattle.key_port.specs.Answers.{Rules}
use Rattle.descriptor_doc.specs.{Checks.IsChecked, declared.descriptor.Descriptor.Descriptor}
use Rattle.vote_pool.specs.declared.{entry.FamilyMicro.FamilyMicro, kept.KeptDescriptor.KeptDescriptor}
use Rattle.vote_pool.specs.Summaries.{IsPrepared}

-- the signer of a certificate, where there is one
abbrev pub signer_of : Option EdCert → Option (List ℕ)
signer_of None = None
signer_of (Some certificate) = Some certificate.signer

-- what is kept of a descriptor
abbrev pub kept_of : Descriptor → KeptDescriptor
kept_of d = record {
  router = d.router;
  ed_key = signer_of d.identity_ed25519;
  has_onion_key = is_some d.onion_key;
  platform = d.platform;
  published = d.published;
  uptime = d.uptime;
  bandwidth = d.bandwidth;
  hibernating = d.hibernating;
  or_addresses = d.or_addresses;
  tunnelled_dir_server = d.tunnelled_dir_server;
  proto = d.proto;
  identity = d.identity;
  digest = d.digest;
  text = d.text;
}

-- This is what is kept of a descriptor that was checked, the summary of its exit policy, the text and the digest of its
-- microdescriptor, and those of the one with families, where there is one.
pub record IsHeld (rules : Rules) (descriptor : Descriptor) (kept : KeptDescriptor) (summary : Ports) (micro : List ℕ)
    (digest : Digest2) (family : Option FamilyMicro) : Type 0 where
  pub checked : IsChecked rules descriptor
  pub kept_is : kept ≡ kept_of descriptor
  pub prepared : IsPrepared descriptor summary micro digest family
