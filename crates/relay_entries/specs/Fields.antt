-- What single arguments of an entry's items say (dir-spec, "Vote and consensus status document formats").
use Rattle.std.specs.Prelude.{ℕ, ◌-◌, ◌==◌, nat_lt, Bool, not, ◌&&◌, List, length, drop, is_some, Option, Some, None}
use Rattle.std.specs.{Prelude.{if◌then◌else◌, codes, map}, List.{list_all, suffix_len}, Option.option_map, Str.bytes_eq}
use Rattle.item_terms.specs.Words.{strip}
use Rattle.dir_bytes.specs.Fields.{base64}
use Rattle.dir_values.specs.{Digests.digest2, Numbers.{number_of, number_in, port_of}, declared.digest.Digest2.Digest2}
use Rattle.dir_values.specs.declared.digest.Fingerprint.{Fingerprint}
pub use Rattle.list_values.specs.Parts.{is_comma, parts_of}
use Rattle.relay_entries.specs.declared.said.{Bandwidths.Bandwidths, EdOpinion.EdOpinion}
use Rattle.relay_entries.specs.declared.said.EdOpinion.TheVariants as opinion

-- the identity that 27 characters of strict base64 spell, without `=`
abbrev pub identity : List ℕ → Option Fingerprint
identity text = option_map (λ bytes. record { 0 = bytes }) (base64 20 text)

-- ---- an address with a port

-- `:`
abbrev pub colon : ℕ
colon = 58

-- any byte but a colon
abbrev pub is_no_colon : ℕ → Bool
is_no_colon byte = not (byte == colon)

-- how many bytes stand after the last colon
abbrev pub after_colon : List ℕ → ℕ
after_colon text = suffix_len is_no_colon text

-- whether a text ends with a colon and a port
abbrev pub is_address : List ℕ → Bool
is_address text =
    nat_lt (after_colon text) (length text) && is_some (port_of (drop (length text - after_colon text) text))

-- ---- bandwidths

-- bandwidths with this number for `Bandwidth=`, if it is one
abbrev pub bandwidth_if : Bandwidths → Option ℕ → Option Bandwidths
bandwidth_if said None = None
bandwidth_if said (Some number) = Some (record { bandwidth = Some number; measured = said.measured })

-- bandwidths with the number that a text spells for `Bandwidth=`, if none was said before
abbrev pub with_bandwidth : Bandwidths → List ℕ → Option Bandwidths
with_bandwidth said text = if is_some said.bandwidth then None else bandwidth_if said (number_of text)

-- bandwidths with this number for `Measured=`, if it is one
abbrev pub measured_if : Bandwidths → Option ℕ → Option Bandwidths
measured_if said None = None
measured_if said (Some number) = Some (record { bandwidth = said.bandwidth; measured = Some number })

-- bandwidths with the number that a text spells for `Measured=`, if none was said before
abbrev pub with_measured : Bandwidths → List ℕ → Option Bandwidths
with_measured said text = if is_some said.measured then None else measured_if said (number_of text)

-- bandwidths with what stands after one key, after the other, or after neither
abbrev pub with_either : Bandwidths → Option (List ℕ) → Option (List ℕ) → Option Bandwidths
with_either said (Some text) other = with_bandwidth said text
with_either said None (Some text) = with_measured said text
with_either said None None = Some said

-- bandwidths with what one more argument says, if it may stand; one of another key says nothing
abbrev pub with_argument : Bandwidths → List ℕ → Option Bandwidths
with_argument said text = with_either said (strip (codes "Bandwidth=") text) (strip (codes "Measured=") text)

-- ---- methods

-- whether a text is numbers below 2 ^ 32 with commas between them
abbrev pub are_methods : List ℕ → Bool
are_methods text = list_all (λ part. is_some (number_of part)) (parts_of text)

-- the numbers that a text spells between its commas, in their order
abbrev pub methods_in : List ℕ → List ℕ
methods_in text = map number_in (parts_of text)

-- ---- an Ed25519 key

-- the opinion that the relay has this key
abbrev pub this_key : Digest2 → EdOpinion
this_key key = opinion.Key key.0

-- what a text says of a relay's key: 43 characters of strict base64 without `=`, or `none`
abbrev pub ed_opinion : List ℕ → Option EdOpinion
ed_opinion text = if bytes_eq text (codes "none") then Some opinion.None else option_map this_key (digest2 text)
