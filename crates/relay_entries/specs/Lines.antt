-- What the items of an entry say, or the place of what is wrong: their arguments from left to right (dir-spec, "Vote
-- and consensus status document formats").
use Rattle.std.specs.Prelude.{ℕ, ◌+◌, ◌*◌, Bool, false, not, List, [], ◌∷◌, is_some, Option, Some, None, Result, Ok}
use Rattle.std.specs.{Prelude.{Err, codes, option_and_then}, List.find, Str.bytes_eq}
use Rattle.item_terms.specs.{Items.Item, Words.strip}
use Rattle.dir_bytes.specs.Fields.{date, time_of_day, address}
use Rattle.dir_values.specs.{Digests.{digest1, digest2}, Names.is_nickname, Numbers.port_of}
use Rattle.dir_values.specs.declared.digest.Digest2.{Digest2}
use Rattle.frame_values.specs.{declared.{found.Span.Span, values.Value.Value}, Arguments.{Argument, arguments_of}}
use Rattle.frame_values.specs.{Arguments.{front, others, field, next}, Fields.span_if, Lines.{flags_of, rest_of}}
use Rattle.frame_values.specs.declared.values.Value.TheVariants as value
use Rattle.relay_entries.specs.declared.said.{Bandwidths.Bandwidths as BandwidthsSaid, EdOpinion.EdOpinion}
use Rattle.relay_entries.specs.declared.said.EntryKind.{EntryKind, TheVariants.{Relay, Address, Flags, Rest}}
use Rattle.relay_entries.specs.declared.said.{EntryKind.TheVariants.{Bandwidths, Micro, Ed}, EntryValue.EntryValue}
use Rattle.relay_entries.specs.{declared.said.{MicroLine.MicroLine, RelayLine.RelayLine}, Fields.{identity, is_address}}
use Rattle.relay_entries.specs.Fields.{with_argument, are_methods, ed_opinion}
use Rattle.relay_entries.specs.declared.said.EntryValue.TheVariants as own

-- a relay: nickname, identity, the digest of its descriptor, when that was published, IPv4 address, ORPort, DirPort
abbrev pub relay_of : Item → Result RelayLine ℕ
relay_of item =
    let from_name = arguments_of item in
    let from_identity = others from_name in
    let from_digest = others from_identity in
    let from_date = others from_digest in
    let from_time = others from_date in
    let from_ip = others from_time in
    let from_or_port = others from_ip in
    let from_dir_port = others from_or_port in
    let name = front item.place from_name in
    let identity_text = front item.place from_identity in
    let digest_text = front item.place from_digest in
    let date_text = front item.place from_date in
    let time_text = front item.place from_time in
    let ip = front item.place from_ip in
    let or_port = front item.place from_or_port in
    let dir_port = front item.place from_dir_port in
    next (field name (span_if (is_nickname name.text) name)) (λ nickname.
    next (field identity_text (identity identity_text.text)) (λ fingerprint.
    next (field digest_text (digest1 digest_text.text)) (λ digest.
    next (field date_text (date date_text.text)) (λ days.
    next (field time_text (time_of_day time_text.text)) (λ seconds.
    next (field ip (address ip.text)) (λ ip_number.
    next (field or_port (port_of or_port.text)) (λ or_number.
    next (field dir_port (port_of dir_port.text)) (λ dir_number.
    Ok (record {
      nickname = nickname;
      identity = fingerprint;
      digest = digest;
      published = 86400 * days + seconds;
      ip = ip_number;
      or_port = or_number;
      dir_port = dir_number;
    })))))))))

-- where one argument stands that ends with a colon and a port
abbrev pub address_of : Item → Result Span ℕ
address_of item =
    let first = front item.place (arguments_of item) in
    field first (span_if (is_address first.text) first)

-- ---- bandwidths

-- nothing of bandwidths
abbrev pub no_bandwidths : BandwidthsSaid
no_bandwidths = record { bandwidth = None; measured = None }

-- bandwidths with what these arguments say, or the place of the first that may not stand
unfoldable pub with_arguments : BandwidthsSaid → List Argument → Result BandwidthsSaid ℕ
with_arguments said [] = Ok said
with_arguments said (argument ∷ rest) =
    next (field argument (with_argument said argument.text)) (λ more. with_arguments more rest)

-- the bandwidths that an item says
abbrev pub bandwidths_of : Item → Result BandwidthsSaid ℕ
bandwidths_of item = with_arguments no_bandwidths (arguments_of item)

-- ---- microdescriptors

-- what stands after the name of SHA-256, where an argument begins with it
abbrev pub after_sha256 : Argument → Option (List ℕ)
after_sha256 argument = strip (codes "sha256=") argument.text

-- whether an argument names a digest of SHA-256
abbrev pub names_sha256 : Argument → Bool
names_sha256 argument = is_some (after_sha256 argument)

-- the digest that an argument names, if there is one
abbrev pub named_digest : Option Argument → Result (Option Digest2) ℕ
named_digest None = Ok None
named_digest (Some argument) =
    next (field argument (option_and_then digest2 (after_sha256 argument))) (λ digest. Ok (Some digest))

-- the first SHA-256 digest of some arguments; digests of other algorithms say nothing
abbrev pub digest_among : List Argument → Result (Option Digest2) ℕ
digest_among arguments = named_digest (find names_sha256 arguments)

-- the same, where an argument has to stand
abbrev pub some_digest : ℕ → List Argument → Result (Option Digest2) ℕ
some_digest item [] = Err item
some_digest item (argument ∷ rest) = digest_among (argument ∷ rest)

-- methods, and the digest of the microdescriptor that they make
abbrev pub micro_of : Item → Result MicroLine ℕ
micro_of item =
    let first = front item.place (arguments_of item) in
    next (field first (span_if (are_methods first.text) first)) (λ methods.
    next (some_digest item.place (others (arguments_of item))) (λ digest.
    Ok (record { methods = methods; digest = digest })))

-- ---- Ed25519 keys

-- the argument after `ed25519`: a key or `none`
abbrev pub ed_of : Item → Result EdOpinion ℕ
ed_of item =
    let second = front item.place (others (arguments_of item)) in
    field second (ed_opinion second.text)

-- whether an item is passed over: an `id` of another kind of key than Ed25519 is
abbrev pub is_ignored : EntryKind → Item → Bool
is_ignored Ed item = not (bytes_eq (front item.place (arguments_of item)).text (codes "ed25519"))
is_ignored _ item = false

-- ---- every item of an entry

-- what an item of an entry says, or the place of what is wrong
abbrev pub entry_value : EntryKind → Item → Result (Value EntryValue) ℕ
entry_value Relay item = next (relay_of item) (λ relay. Ok (value.Own (own.Relay relay)))
entry_value Address item = next (address_of item) (λ text. Ok (value.Text text))
entry_value Flags item = next (flags_of item) (λ text. Ok (value.Text text))
entry_value Rest item = Ok (value.Text (rest_of item))
entry_value Bandwidths item = next (bandwidths_of item) (λ said. Ok (value.Own (own.Bandwidths said)))
entry_value Micro item = next (micro_of item) (λ micro. Ok (value.Own (own.Micro micro)))
entry_value Ed item = next (ed_of item) (λ said. Ok (value.Own (own.Ed said)))

module _ {V : Type 0} where
  -- the same value in a document that has what an entry says among its own
  abbrev pub lifted_entry_value : (EntryValue → V) → Value EntryValue → Value V
  lifted_entry_value make value.Nothing = value.Nothing
  lifted_entry_value make (value.Text span) = value.Text span
  lifted_entry_value make (value.Number number) = value.Number number
  lifted_entry_value make (value.Fingerprint identity) = value.Fingerprint identity
  lifted_entry_value make (value.Object lines) = value.Object lines
  lifted_entry_value make (value.Own said) = value.Own (make said)
