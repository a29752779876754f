-- The entry of a relay in a vote that an authority makes (dir-spec, "Vote and consensus status document formats").
use Rattle.std.specs.Prelude.{ℕ, ◌==◌, nat_eq, nat_le, Bool, true, false, not, ◌&&◌, ◌||◌, List, [], ◌∷◌, ◌++◌, take}
use Rattle.std.specs.{Prelude.{Option, Some, None, is_some, option_and_then, codes, if◌then◌else◌}, List.find}
use Rattle.std.specs.{List.starts_with, Str.bytes_eq}
use Rattle.count_terms.specs.declared.newest.Newest.{Newest, TheVariants.{Method33, Method34, Method35}}
use Rattle.item_terms.specs.{Bytes.space, Words.words_of}
use Rattle.dir_values.specs.{Ports.summary_text, declared.digest.Digest2.Digest2}
use Rattle.exit_summary.specs.Summaries.{summary_of}
use Rattle.descriptor_frame.specs.declared.certificate.EdCert.{EdCert}
use Rattle.descriptor_doc.specs.declared.descriptor.Descriptor.{Descriptor}
use Rattle.relay_entries.specs.declared.said.{Bandwidths.Bandwidths, EdOpinion.EdOpinion}
use Rattle.relay_entries.specs.declared.said.EdOpinion.TheVariants as opinion
use Rattle.vote_terms.specs.declared.entry.{EntryFacts.EntryFacts, MicroFacts.MicroFacts}
use Rattle.flag_rules.specs.{Names.names_of, declared.{flags.Flags.Flags, relay.RelayFacts.RelayFacts}}
use Rattle.vote_pool.specs.Summaries.{family_digest_of, micro_digest_of}

-- whether 34 is one of the methods up to this one: then a made vote follows C tor
abbrev pub knows_34 : Newest → Bool
knows_34 Method33 = false
knows_34 Method34 = true
knows_34 Method35 = true

-- ---- methods and microdescriptors

-- the consensus methods that a made vote lists, by the newest that is known: 32, and each from there up to this one
abbrev pub made_methods : Newest → List ℕ
made_methods Method33 = 32 ∷ 33 ∷ []
made_methods Method34 = 32 ∷ 33 ∷ 34 ∷ []
made_methods Method35 = 32 ∷ 33 ∷ 34 ∷ 35 ∷ []

-- the `m` line of the microdescriptor with this digest, which is made under these methods
abbrev pub micro_of_digest : List ℕ → Digest2 → MicroFacts
micro_of_digest methods digest = record { methods = methods; digest = digest }

-- those of a relay whose microdescriptors, by the methods before 35 and by 35, have these digests; where both are one it is
-- one line
abbrev pub both_micros : Digest2 → Digest2 → List MicroFacts
both_micros digest family =
    if bytes_eq digest.0 family.0 then micro_of_digest (made_methods Method35) digest ∷ []
    else micro_of_digest (made_methods Method34) digest ∷ micro_of_digest (35 ∷ []) family ∷ []

-- the `m` lines of such a relay, by the newest method that is known
abbrev pub micros_of : Newest → Digest2 → Digest2 → List MicroFacts
micros_of Method33 digest family = micro_of_digest (made_methods Method33) digest ∷ []
micros_of Method34 digest family = micro_of_digest (made_methods Method34) digest ∷ []
micros_of Method35 digest family = both_micros digest family

-- those of a relay with an RSA onion key or without: without one there are none where 34 is known
abbrev pub made_micros : Newest → Bool → Digest2 → Digest2 → List MicroFacts
made_micros newest has_key digest family =
    if knows_34 newest && not has_key then [] else micros_of newest digest family

-- ---- the address

-- whether an address is one of IPv6, which stands in brackets
abbrev pub is_ipv6 : List ℕ → Bool
is_ipv6 address = starts_with nat_eq address (codes "[")

-- whether a byte is a digit or a small letter
abbrev pub is_small : ℕ → Bool
is_small byte = (nat_le 48 byte && nat_le byte 57) || (nat_le 97 byte && nat_le byte 122)

-- whether a byte is a capital letter
abbrev pub is_capital : ℕ → Bool
is_capital byte = nat_le 65 byte && nat_le byte 90

-- whether these bytes are without capital letters, and without a zero in front of a word; the first may begin a word or
-- not, and stand behind such a zero or not
abbrev pub is_plain : Bool → Bool → List ℕ → Bool
is_plain begins zero [] = true
is_plain begins zero (byte ∷ rest) =
    not ((zero && is_small byte) || is_capital byte) && is_plain (not (is_small byte)) (begins && byte == 48) rest

-- an address, where it is written without these
abbrev pub if_plain : Option (List ℕ) → List (List ℕ)
if_plain None = []
if_plain (Some address) = if is_plain true false address then address ∷ [] else []

-- the address of the `a` line: the first; but where 34 is known the first of IPv6, if it is written so
abbrev pub made_addresses : Newest → List (List ℕ) → List (List ℕ)
made_addresses newest addresses = if knows_34 newest then if_plain (find is_ipv6 addresses) else take 1 addresses

-- ---- what else an entry says

-- the version that words name: the first two with a space between them, where the first is `Tor`
abbrev pub version_of_words : List (List ℕ) → Option (List ℕ)
version_of_words [] = None
version_of_words (name ∷ []) = None
version_of_words (name ∷ number ∷ others) =
    if bytes_eq name (codes "Tor") then Some (name ++ space ∷ number) else None

-- the version of Tor that a platform names, for the `v` line
abbrev pub version_of_platform : List ℕ → Option (List ℕ)
version_of_platform platform = version_of_words (words_of platform)

-- the Ed25519 identity for the `id` line: the signer of the certificate, where there is one
abbrev pub opinion_of : Option EdCert → EdOpinion
opinion_of None = opinion.None
opinion_of (Some certificate) = opinion.Key certificate.signer

-- the `w` line: what the relay says, and what was measured, where that was
abbrev pub made_bandwidths : RelayFacts → Bandwidths
made_bandwidths known = record { bandwidth = Some known.bandwidth_kb; measured = known.measured.kb }

-- the entry of the relay of a descriptor, of which this is known, with these flags, by the newest method that is known
abbrev pub made_entry : Newest → Descriptor → RelayFacts → Flags → EntryFacts
made_entry newest d known flags = record {
  nickname = d.router.nickname;
  identity = d.identity;
  digest = d.digest;
  published = d.published;
  ip = d.router.ip;
  or_port = d.router.or_port;
  dir_port = d.router.dir_port;
  addresses = made_addresses newest d.or_addresses;
  flags = names_of flags;
  version = option_and_then version_of_platform d.platform;
  protocols = d.proto;
  bandwidths = Some (made_bandwidths known);
  policy = Some (summary_text (summary_of d.policy));
  micros = made_micros newest (is_some d.onion_key) (micro_digest_of d) (family_digest_of d);
  ed = opinion_of d.identity_ed25519;
}
