-- The Ed25519 identity of a relay, by the key that is kept of its certificate.
use Rattle.std.proofs.Common.{◌≡◌, Option, Some, None, refl}
use Rattle.descriptor_frame.specs.declared.certificate.EdCert.{EdCert}
use Rattle.vote_pool.specs.Kept.{signer_of}
use Rattle.vote_maker.specs.{Entries.opinion_of, Private.opinion_of_key}

pub opinion_by_key : (certificate : Option EdCert) → opinion_of_key (signer_of certificate) ≡ opinion_of certificate
opinion_by_key None = refl
opinion_by_key (Some certificate) = refl
