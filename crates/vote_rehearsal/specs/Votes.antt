-- The vote of an authority of a rehearsal (dir-spec, "Vote and consensus status document formats"), signed by the test
-- scheme.
use Rattle.std.specs.Prelude.{ℕ, ◌+◌, List, [], ◌++◌, Some, None, codes, true, false}
use Rattle.sha1.specs.Sha1.{sha1}
use Rattle.dir_values.specs.declared.algorithm.Algorithm.TheVariants.{Sha1}
use Rattle.flag_rules.specs.{Names.names_of, declared.flags.Flags.Flags}
use Rattle.key_port.specs.TestScheme.{test_signature}
use Rattle.key_port.specs.declared.verifier.KeyKind.TheVariants as kind
use Rattle.authority_certs.specs.declared.cert.Cert.{Cert}
use Rattle.vote_terms.specs.declared.facts.{SignatureFacts.SignatureFacts, VoteFacts.VoteFacts}
use Rattle.vote_terms.specs.declared.lists.VoteLists.{VoteLists}
use Rattle.vote_text.specs.Made.{made_signed, signature_rest}
use Rattle.vote_rehearsal.specs.{Relays.numbered_word, Entries.{entries_of, only_method}}
use Rattle.vote_rehearsal.specs.Certificates.{certificate_bytes, certificate_of}
use Rattle.vote_rehearsal.specs.declared.{authority.Authority.Authority, relay.Relay.Relay}

-- 2026-01-01 00:00:00, when the period begins
abbrev pub period : ℕ
period = 1767225600

-- the flags that each vote knows: Exit, Guard, MiddleOnly, Running, Valid
abbrev pub known_flags : Flags
known_flags = record {
  bad_exit = false;
  exit = true;
  fast = false;
  guard = true;
  hs_dir = false;
  middle_only = true;
  running = true;
  stable = false;
  stale_desc = false;
  sybil = false;
  v2_dir = false;
  valid = true;
}

-- no lists
abbrev pub no_lists : VoteLists
no_lists = record {
  client_versions = None;
  server_versions = None;
  recommended_client_protocols = None;
  recommended_relay_protocols = None;
  required_client_protocols = None;
  required_relay_protocols = None;
  params = None;
}

-- who signs, as the certificate says, with this signature; its algorithm is not named
abbrev pub signature_by : Cert → List ℕ → SignatureFacts
signature_by cert signature = record {
  algorithm = Sha1;
  identity = cert.fingerprint;
  key_digest = record { 0 = sha1 cert.signing_key };
  signature = signature;
}

-- the nickname of the authority with a number
abbrev pub nickname_of : ℕ → List ℕ
nickname_of number = numbered_word (codes "auth") number

-- the name of its host
abbrev pub host_of : ℕ → List ℕ
host_of number = nickname_of number ++ codes ".example"

-- What the vote of an authority says; the signature is no part of it. It was published ten minutes before the period, is
-- fresh for an hour and valid for three, and the address of its authority is 192.0.2.0 and its number.
unfoldable pub facts_of : List Relay → Authority → VoteFacts
facts_of relays authority = record {
  methods = Some only_method;
  published = 1767225000;
  valid_after = period;
  fresh_until = 1767229200;
  valid_until = 1767236400;
  vote_seconds = 300;
  dist_seconds = 300;
  known_flags = names_of known_flags;
  flag_thresholds = None;
  lists = no_lists;
  nickname = nickname_of authority.number;
  identity = authority.identity;
  address = host_of authority.number;
  ip = 3221225984 + authority.number;
  dir_port = 80;
  or_port = 443;
  contact = None;
  random_previous = None;
  random_current = None;
  certificate = certificate_of authority;
  entries = entries_of relays authority.number;
  signature = signature_by (certificate_of authority) [];
}

-- the text of it that is signed
unfoldable pub signed_text : List Relay → Authority → List ℕ
signed_text relays authority = made_signed (facts_of relays authority) (certificate_bytes authority)

-- the signing key's signature over its digest
abbrev pub signature_of : List Relay → Authority → List ℕ
signature_of relays authority =
    test_signature kind.Signing authority.signing_key (sha1 (signed_text relays authority))

-- the text of the vote of an authority
unfoldable pub vote_text : List Relay → Authority → List ℕ
vote_text relays authority =
    signed_text relays authority
    ++ signature_rest (signature_by (certificate_of authority) (signature_of relays authority))
