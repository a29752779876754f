-- What a mirror holds.
use Rattle.std.specs.{Prelude.{ℕ, List, [], Option, Some, None}, List.filter_map, Option.option_map}
use Rattle.dir_values.specs.declared.digest.{Fingerprint.Fingerprint, Digest2.Digest2}
use Rattle.authority_certs.specs.declared.cert.Cert.{Cert}
use Rattle.consensus_terms.specs.declared.{consensus.SignedConsensus.SignedConsensus, router.Routerline.Routerline}
use Rattle.detached_sigs.specs.declared.key.SignerKey.{SignerKey}
use Rattle.mirror_core.specs.Rows.{Rows}

-- A certificate, and the bytes from its first item through its last object.
pub record KeptCert : Type 0 where
  pub cert : Cert
  pub bytes : List ℕ

-- A consensus, the bytes that it was read from, and the authorities that signed it, with the keys by which they did.
pub record HeldConsensus : Type 0 where
  pub bytes : List ℕ
  pub consensus : SignedConsensus
  pub signers : List SignerKey

-- The authorities whose signatures count; of these the certificates that are kept, ascending by fingerprint, one of each
-- at most; the consensus that is held; and a row for each digest that it names, with the microdescriptor where it is held.
pub record Mirrored : Type 0 where
  pub roster : List Fingerprint
  pub certs : List KeptCert
  pub held : Option HeldConsensus
  pub rows : Rows

-- a mirror that was given nothing yet
abbrev pub no_mirror : List Fingerprint → Mirrored
no_mirror roster = record { roster = roster; certs = []; held = None; rows = [] }

-- the digest of the microdescriptor of a relay, where the consensus names it
abbrev pub micro_named : Routerline → Option (List ℕ)
micro_named router = option_map (λ (digest : Digest2). digest.0) router.m

-- the digests of microdescriptors that a consensus names, in its order
abbrev pub named : SignedConsensus → List (List ℕ)
named consensus = filter_map micro_named consensus.facts.routers

-- the same of the consensus that is held
abbrev pub named_by : Option HeldConsensus → List (List ℕ)
named_by None = []
named_by (Some held) = named held.consensus
