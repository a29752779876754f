-- What a descriptor says (dir-spec, "Server descriptor format").
use Rattle.std.specs.Prelude.{ℕ, ◌+◌, ◌==◌, Bool, List, [], ◌++◌, take, map, slice_range, codes, Option, Some}
use Rattle.std.specs.{Prelude.option_and_then, List.position_or_len, Option.option_map, Result.result_ok}
use Rattle.sha1.specs.Sha1.{sha1}
use Rattle.sha2.specs.Sha256.{sha256}
use Rattle.item_terms.specs.{Bytes.space, Words.words_of}
use Rattle.dir_values.specs.Ports.{Ports, port_summary}
use Rattle.descriptor_frame.specs.{Certificates.certificate_of, declared.certificate.EdCert.EdCert}
use Rattle.descriptor_frame.specs.declared.said.RouterLine.{RouterLine}
use Rattle.frame_values.specs.{Parts.{part, bytes_in, moment_of}, declared.found.Span.Span}
use Rattle.descriptor_doc.specs.declared.descriptor.{Descriptor.Descriptor, EdSignature.EdSignature, Router.Router}
use Rattle.descriptor_doc.specs.declared.{head.Head.Head, kept.Kept.Kept}

-- ---- parts of the text

-- the descriptor's bytes, from its first item through its last object
abbrev pub whole_part : List ℕ → Head → List ℕ
whole_part bytes head = slice_range bytes head.begin head.end

-- the text of which the SHA-1 is the descriptor's digest: from the first item through the line `router-signature` with its
-- NL
abbrev pub signed_part : List ℕ → Head → List ℕ
signed_part bytes head = slice_range bytes head.begin head.signed_end

-- whether a byte is a space
abbrev pub is_space : ℕ → Bool
is_space byte = byte == space

-- a text through its first space
abbrev pub through_space : List ℕ → List ℕ
through_space text = take (position_or_len is_space text + 1) text

-- the text that the Ed25519 signature is made over: from the first item through the first space after
-- `router-sig-ed25519`
abbrev pub ed_signed_part : List ℕ → Head → List ℕ
ed_signed_part bytes head =
    slice_range bytes head.begin head.ed_separator
    ++ through_space (slice_range bytes head.ed_separator head.end)

-- the words before that text where its SHA-256 is made
abbrev pub ed_prefix : List ℕ
ed_prefix = codes "Tor router descriptor signature v1"

-- the SHA-256 that is signed: of those words and that text
abbrev pub ed_digest : List ℕ → Head → List ℕ
ed_digest bytes head = sha256 (ed_prefix ++ ed_signed_part bytes head)

-- ---- the values

-- the relay
abbrev pub router_in : List ℕ → RouterLine → Router
router_in bytes line = record {
  nickname = part bytes line.nickname;
  ip = line.ip;
  or_port = line.or_port;
  socks_port = line.socks_port;
  dir_port = line.dir_port;
}

-- the certificate whose lines stand in a span. Each that is read is one, so that none is lost.
abbrev pub certificate_in : List ℕ → Span → Option EdCert
certificate_in bytes lines = certificate_of (bytes_in bytes lines)

-- the summary of ports whose text stands in a span. Each that is read is one, so that none is lost.
abbrev pub ports_in : List ℕ → Span → Option Ports
ports_in bytes span = result_ok (port_summary (part bytes span))

-- the words of the text that stands in a span
abbrev pub words_in : List ℕ → Span → List (List ℕ)
words_in bytes span = words_of (part bytes span)

-- an Ed25519 signature, and what it is made over
abbrev pub ed_signature_in : List ℕ → Head → List ℕ → EdSignature
ed_signature_in bytes head signature =
    record { signature = signature; covered = record { 0 = ed_digest bytes head } }

-- what the descriptor says of which this was kept, in these bytes; of its families nothing is read yet
abbrev pub descriptor_in : List ℕ → Kept → Descriptor
descriptor_in bytes kept = record {
  router = router_in bytes kept.head.router;
  identity_ed25519 = option_and_then (certificate_in bytes) kept.head.identity_ed25519;
  master_key_ed25519 = kept.head.master_key_ed25519;
  platform = option_map (part bytes) kept.head.platform;
  published = moment_of kept.head.published;
  fingerprint = kept.head.fingerprint;
  uptime = kept.head.uptime;
  bandwidth = kept.head.bandwidth;
  hibernating = kept.head.hibernating;
  onion_key = option_map (bytes_in bytes) kept.head.onion_key;
  signing_key = bytes_in bytes kept.head.signing_key;
  ntor_onion_key = kept.head.ntor_onion_key;
  policy = kept.policy;
  ipv6_policy = option_and_then (ports_in bytes) kept.head.ipv6_policy;
  family = option_map (words_in bytes) kept.head.family;
  or_addresses = map (part bytes) kept.addresses;
  tunnelled_dir_server = kept.head.tunnelled_dir_server;
  proto = option_map (part bytes) kept.head.proto;
  contact = option_map (part bytes) kept.head.contact;
  router_sig_ed25519 = option_map (ed_signature_in bytes kept.head) kept.head.router_sig_ed25519;
  router_signature = bytes_in bytes kept.head.router_signature;
  identity = record { 0 = sha1 (bytes_in bytes kept.head.signing_key) };
  digest = record { 0 = sha1 (signed_part bytes kept.head) };
  text = whole_part bytes kept.head;
  family_certs = Some [];
}
