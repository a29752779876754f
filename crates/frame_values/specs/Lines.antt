-- What the line of an item says, or the place of what is wrong: its arguments from left to right.
use Rattle.std.specs.{Prelude.{ℕ, ◌+◌, ◌*◌, List, [], Option, Some, None, Result, Ok, Err, if◌then◌else◌}, Str.bytes_eq}
use Rattle.item_terms.specs.Items.{Item}
use Rattle.dir_bytes.specs.Fields.{date, time_of_day, address}
use Rattle.dir_values.specs.{Digests.fingerprint, FlagSets.wrong_flag, Names.is_nickname, Numbers.{number_of, port_of}}
use Rattle.dir_values.specs.{Numbers.wrong_number, declared.digest.Fingerprint.Fingerprint}
use Rattle.frame_values.specs.{declared.found.{Span.Span, DirSource.DirSource}, Arguments.{arguments_of, front, others}}
use Rattle.frame_values.specs.{Arguments.{field, next}, Fields.{span, span_if, is_there}}

-- where the arguments stand, from the first one's first byte through the last one
abbrev pub rest_of : Item → Span
rest_of item = span item.start item.arguments

-- where the arguments stand, unless something is wrong at a place
abbrev pub rest_unless : Option ℕ → Item → Result Span ℕ
rest_unless None item = Ok (rest_of item)
rest_unless (Some place) item = Err place

-- this word
abbrev pub literal : List ℕ → Item → Result (Unit {0}) ℕ
literal word item =
    let first = front item.place (arguments_of item) in
    if bytes_eq first.text word then Ok tt else Err first.place

-- numbers below 2 ^ 32, in any number
abbrev pub numbers_of : Item → Result Span ℕ
numbers_of item = rest_unless (wrong_number (arguments_of item)) item

-- flags, in any number, none of them twice
abbrev pub flags_of : Item → Result Span ℕ
flags_of item = rest_unless (wrong_flag [] (arguments_of item)) item

-- a date and a time of day: the seconds since 1970-01-01 00:00:00
abbrev pub time_of : Item → Result ℕ ℕ
time_of item =
    let first = front item.place (arguments_of item) in
    let second = front item.place (others (arguments_of item)) in
    next (field first (date first.text)) (λ days.
    next (field second (time_of_day second.text)) (λ seconds.
    Ok (86400 * days + seconds)))

-- two numbers of seconds
abbrev pub delays_of : Item → Result (ℕ × ℕ) ℕ
delays_of item =
    let first = front item.place (arguments_of item) in
    let second = front item.place (others (arguments_of item)) in
    next (field first (number_of first.text)) (λ vote.
    next (field second (number_of second.text)) (λ distribution.
    Ok (vote, distribution)))

-- who an authority is: nickname, identity, host name, IPv4 address, DirPort, ORPort
abbrev pub source_of : Item → Result DirSource ℕ
source_of item =
    let from_name = arguments_of item in
    let from_identity = others from_name in
    let from_host = others from_identity in
    let from_ip = others from_host in
    let from_dir_port = others from_ip in
    let from_or_port = others from_dir_port in
    let name = front item.place from_name in
    let identity = front item.place from_identity in
    let host = front item.place from_host in
    let ip = front item.place from_ip in
    let dir_port = front item.place from_dir_port in
    let or_port = front item.place from_or_port in
    next (field name (span_if (is_nickname name.text) name)) (λ nickname.
    next (field identity (fingerprint identity.text)) (λ digest.
    next (field host (span_if (is_there host.text) host)) (λ host_name.
    next (field ip (address ip.text)) (λ ip_number.
    next (field dir_port (port_of dir_port.text)) (λ dir_number.
    next (field or_port (port_of or_port.text)) (λ or_number.
    Ok (record {
      nickname = nickname;
      identity = digest;
      address = host_name;
      ip = ip_number;
      dir_port = dir_number;
      or_port = or_number;
    })))))))

-- one argument
abbrev pub argument_of : Item → Result Span ℕ
argument_of item =
    let first = front item.place (arguments_of item) in
    field first (span_if (is_there first.text) first)

-- a fingerprint
abbrev pub fingerprint_of : Item → Result Fingerprint ℕ
fingerprint_of item =
    let first = front item.place (arguments_of item) in
    field first (fingerprint first.text)
