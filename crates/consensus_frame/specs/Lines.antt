-- What the lines of a consensus say that a vote has not, or has otherwise (dir-spec, "Vote and consensus status
-- document formats").
use Rattle.std.specs.Prelude.{ℕ, ◌+◌, ◌*◌, true, false, ◌||◌, not, List, [], ◌∷◌, Option, Some, None, Result, Ok, Err}
use Rattle.std.specs.{Prelude.{codes, if◌then◌else◌}, Option.option_map, Str.bytes_eq}
use Rattle.item_terms.specs.{Items.Item, Words.strip}
use Rattle.dir_bytes.specs.Fields.{date, time_of_day, address}
use Rattle.dir_values.specs.{Arguments.Argument, Digests.key_digest, Names.is_nickname, Numbers.{number_of, port_of}}
use Rattle.dir_values.specs.declared.digest.{Digest1.Digest1, Digest2.Digest2}
pub use Rattle.dir_values.specs.Digests.{digest1, digest2}
use Rattle.frame_values.specs.{Arguments.{arguments_of, front, others, field, next}, Fields.span_if, Values.no_digest}
use Rattle.relay_entries.specs.{Fields.{identity, with_argument}, Lines.no_bandwidths}
use Rattle.relay_entries.specs.declared.said.{Bandwidths.Bandwidths, RelayLine.RelayLine}
use Rattle.consensus_terms.specs.declared.flavour.Flavour.{Flavour, TheVariants.{Ns, Microdesc}}
use Rattle.consensus_terms.specs.declared.router.Bandwidth.{Bandwidth}
use Rattle.consensus_frame.specs.declared.line.Said.{Said}

-- ---- the preamble

-- this word, as one argument
abbrev pub word_here : List ℕ → Argument → Result (Unit {0}) ℕ
word_here word argument = if bytes_eq argument.text word then Ok tt else Err argument.place

-- the flavour that arguments name: none is named for ns
abbrev pub flavour_here : Flavour → ℕ → List Argument → Result (Unit {0}) ℕ
flavour_here Ns item [] = Ok tt
flavour_here Ns item (argument ∷ rest) = Err argument.place
flavour_here Microdesc item arguments = word_here (codes "microdesc") (front item arguments)

-- the version of a consensus of a flavour
abbrev pub version_of : Flavour → Item → Result (Unit {0}) ℕ
version_of flavour item =
    next (word_here (codes "3") (front item.place (arguments_of item)))
    (λ _. flavour_here flavour item.place (others (arguments_of item)))

-- a number below 2 ^ 32
abbrev pub method_of : Item → Result ℕ ℕ
method_of item =
    let first = front item.place (arguments_of item) in
    next (field first (number_of first.text)) (λ number. Ok number)

-- ---- authorities

-- a digest in hex
abbrev pub vote_digest_of : Item → Result Digest1 ℕ
vote_digest_of item = let first = front item.place (arguments_of item) in field first (key_digest first.text)

-- ---- relays

-- the digest of a microdescriptor
abbrev pub micro_digest_of : Item → Result Digest2 ℕ
micro_digest_of item = let first = front item.place (arguments_of item) in field first (digest2 first.text)

-- the digest of the descriptor, which the ns flavour alone has
abbrev pub digest_here : Flavour → ℕ → List Argument → Result Digest1 ℕ
digest_here Ns item arguments = field (front item arguments) (digest1 (front item arguments).text)
digest_here Microdesc item arguments = Ok (record { 0 = no_digest })

-- the arguments after that digest
abbrev pub after_digest : Flavour → List Argument → List Argument
after_digest Ns arguments = others arguments
after_digest Microdesc arguments = arguments

-- a relay: nickname, identity, in the ns flavour the digest of its descriptor, when that was published, IPv4 address,
-- ORPort, DirPort
abbrev pub relay_of : Flavour → Item → Result RelayLine ℕ
relay_of flavour item =
    let from_name = arguments_of item in
    let from_identity = others from_name in
    let from_digest = others from_identity in
    let from_date = after_digest flavour from_digest in
    let from_time = others from_date in
    let from_ip = others from_time in
    let from_or_port = others from_ip in
    let from_dir_port = others from_or_port in
    let name = front item.place from_name in
    let identity_text = front item.place from_identity in
    let date_text = front item.place from_date in
    let time_text = front item.place from_time in
    let ip = front item.place from_ip in
    let or_port = front item.place from_or_port in
    let dir_port = front item.place from_dir_port in
    next (field name (span_if (is_nickname name.text) name)) (λ nickname.
    next (field identity_text (identity identity_text.text)) (λ fingerprint.
    next (digest_here flavour item.place from_digest) (λ digest.
    next (field date_text (date date_text.text)) (λ days.
    next (field time_text (time_of_day time_text.text)) (λ seconds.
    next (field ip (address ip.text)) (λ ip_number.
    next (field or_port (port_of or_port.text)) (λ or_number.
    next (field dir_port (port_of dir_port.text)) (λ dir_number.
    Ok (record {
      nickname = nickname;
      identity = fingerprint;
      digest = digest;
      published = 86400 * days + seconds;
      ip = ip_number;
      or_port = or_number;
      dir_port = dir_number;
    })))))))))

-- ---- bandwidth

-- nothing of a bandwidth
abbrev pub nothing_said : Said
nothing_said = record { bandwidths = no_bandwidths; unmeasured = false }

-- what is said with `Unmeasured=` and this: that is 1, and stands once
abbrev pub with_unmeasured : Said → List ℕ → Option Said
with_unmeasured said text =
    if said.unmeasured || not (bytes_eq text (codes "1")) then None
    else Some (record { bandwidths = said.bandwidths; unmeasured = true })

-- what is said with one more argument that is none of those
abbrev pub with_number : Said → List ℕ → Option Said
with_number said text =
    option_map (λ (bandwidths : Bandwidths). record { bandwidths = bandwidths; unmeasured = said.unmeasured })
    (with_argument said.bandwidths text)

-- what is said with one more argument, by what stands after `Unmeasured=` where it begins so
abbrev pub with_word_by : Said → List ℕ → Option (List ℕ) → Option Said
with_word_by said text (Some value) = with_unmeasured said value
with_word_by said text None = with_number said text

-- what is said with one more argument, if it may stand
abbrev pub with_word : Said → List ℕ → Option Said
with_word said text = with_word_by said text (strip (codes "Unmeasured=") text)

-- what is said with these arguments, or the place of the first that may not stand
unfoldable pub with_words : Said → List Argument → Result Said ℕ
with_words said [] = Ok said
with_words said (argument ∷ rest) = next (field argument (with_word said argument.text)) (λ more. with_words more rest)

-- the bandwidth that is said, which has to be
abbrev pub bandwidth_by : ℕ → Said → Option ℕ → Result Bandwidth ℕ
bandwidth_by item said None = Err item
bandwidth_by item said (Some value) = Ok (record { value = value; unmeasured = said.unmeasured })

-- the bandwidth of a relay: `Bandwidth=` has to stand, and `Unmeasured=1` may; what was measured is read and dropped
abbrev pub bandwidth_of : Item → Result Bandwidth ℕ
bandwidth_of item =
    next (with_words nothing_said (arguments_of item)) (λ said. bandwidth_by item.place said said.bandwidths.bandwidth)
