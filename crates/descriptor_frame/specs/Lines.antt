-- What the items of a server descriptor say, or the place of what is wrong: their arguments from left to right, and then
-- the object (dir-spec, "Server descriptor format").
use Rattle.std.specs.Prelude.{ℕ, ◌+◌, nat_lt, Bool, true, false, ◌&&◌, if◌then◌else◌, List, length, codes, is_some}
use Rattle.std.specs.Prelude.{Option, Some, None, option_and_then, Result, Ok, Err}
use Rattle.item_terms.specs.Items.{Item, Object}
use Rattle.dir_bytes.specs.Fields.{address}
use Rattle.dir_values.specs.{Names.is_nickname, Numbers.port_of, Ports.{Ports, port_summary}}
use Rattle.dir_values.specs.declared.{digest.Fingerprint.Fingerprint, refusal.ValueRefusal.ValueRefusal}
use Rattle.dir_values.specs.declared.refusal.ValueRefusal.TheVariants.{BadValue, Memory}
use Rattle.dirdoc_grammar.specs.Bodies.{decoded_bytes}
use Rattle.descriptor_frame.specs.{Certificates.certificate_of, Fields.{long_number, hibernating, key, padded_key}}
use Rattle.descriptor_frame.specs.{Fields.{signature, is_address, groups_of}, declared.said.BandwidthLine.BandwidthLine}
use Rattle.descriptor_frame.specs.declared.said.DescriptorKind.{DescriptorKind, TheVariants.{Router, Certificate, Key}}
use Rattle.descriptor_frame.specs.declared.said.DescriptorKind.TheVariants.{Rest, Time, Fingerprint as Identity, Uptime}
use Rattle.descriptor_frame.specs.declared.said.DescriptorKind.TheVariants.{Bandwidth, Hibernating, Object as AnyObject}
use Rattle.descriptor_frame.specs.declared.said.DescriptorKind.TheVariants.{PaddedKey, Policy, Ports as PortsLine}
use Rattle.descriptor_frame.specs.declared.said.DescriptorKind.TheVariants.{Address, Nothing, EdSignature, Signature}
use Rattle.descriptor_frame.specs.declared.said.{DescriptorValue.DescriptorValue, RouterLine.RouterLine}
use Rattle.frame_values.specs.{declared.{found.Span.Span, values.Value.Value}, Arguments.{arguments_of, front, others}}
use Rattle.frame_values.specs.{Arguments.{field, next}, Fields.span_if, Lines.{rest_of, time_of}, Signatures.has_words}
use Rattle.frame_values.specs.Signatures.{object_of}
use Rattle.frame_values.specs.declared.values.Value.TheVariants as value
use Rattle.exit_summary.specs.PolicyItems.{item_of}
use Rattle.descriptor_frame.specs.declared.said.DescriptorValue.TheVariants as own

-- a relay: nickname, IPv4 address, ORPort, SOCKSPort, DirPort
abbrev pub router_of : Item → Result RouterLine ℕ
router_of item =
    let from_name = arguments_of item in
    let from_ip = others from_name in
    let from_or_port = others from_ip in
    let from_socks_port = others from_or_port in
    let from_dir_port = others from_socks_port in
    let name = front item.place from_name in
    let ip = front item.place from_ip in
    let or_port = front item.place from_or_port in
    let socks_port = front item.place from_socks_port in
    let dir_port = front item.place from_dir_port in
    next (field name (span_if (is_nickname name.text) name)) (λ nickname.
    next (field ip (address ip.text)) (λ ip_number.
    next (field or_port (port_of or_port.text)) (λ or_number.
    next (field socks_port (port_of socks_port.text)) (λ socks_number.
    next (field dir_port (port_of dir_port.text)) (λ dir_number.
    Ok (record {
      nickname = nickname;
      ip = ip_number;
      or_port = or_number;
      socks_port = socks_number;
      dir_port = dir_number;
    }))))))

-- whether an object is an Ed25519 certificate
abbrev pub is_certificate : Option Object → Bool
is_certificate None = false
is_certificate (Some object) = is_some (option_and_then certificate_of (decoded_bytes object.text))

-- an Ed25519 certificate
abbrev pub certificate_lines : Item → Result Span ℕ
certificate_lines item = object_of (has_words item.object (codes "ED25519 CERT") && is_certificate item.object) item

-- what an argument in front says
abbrev pub first_of : {X : Type 0} → (List ℕ → Option X) → Item → Result X ℕ
first_of value item =
    let first = front item.place (arguments_of item) in
    field first (value first.text)

-- an identity in ten groups of four hex digits
abbrev pub identity_of : Item → Result Fingerprint ℕ
identity_of item =
    next (groups_of 10 item.place (arguments_of item)) (λ bytes. Ok (record { 0 = bytes }))

-- three numbers of bytes a second: average, burst, observed
abbrev pub bandwidth_of : Item → Result BandwidthLine ℕ
bandwidth_of item =
    let from_average = arguments_of item in
    let from_burst = others from_average in
    let from_observed = others from_burst in
    let average = front item.place from_average in
    let burst = front item.place from_burst in
    let observed = front item.place from_observed in
    next (field average (long_number average.text)) (λ average_number.
    next (field burst (long_number burst.text)) (λ burst_number.
    next (field observed (long_number observed.text)) (λ observed_number.
    Ok (record { average = average_number; burst = burst_number; observed = observed_number }))))

-- where a summary of ports stands, by what its text spells: a missing argument is wrong where the text ends, which is
-- the item's place; another one at its own
abbrev pub ports_at : Item → Result Ports ValueRefusal → Result Span ℕ
ports_at item (Ok ports) = Ok (rest_of item)
ports_at item (Err (BadValue place)) =
    if nat_lt place (length item.arguments) then Err (item.start + place) else Err item.place
ports_at item (Err Memory) = Err item.place

-- a summary of ports
abbrev pub ports_of : Item → Result Span ℕ
ports_of item = ports_at item (port_summary item.arguments)

-- an address that ends with a colon and a port
abbrev pub address_of : Item → Result Span ℕ
address_of item =
    let first = front item.place (arguments_of item) in
    field first (span_if (is_address first.text) first)

-- what an item says, or the place of what is wrong
abbrev pub value_at : DescriptorKind → Item → Result (Value DescriptorValue) ℕ
value_at Router item = next (router_of item) (λ router. Ok (value.Own (own.Router router)))
value_at Certificate item = next (certificate_lines item) (λ lines. Ok (value.Object lines))
value_at Key item = next (first_of key item) (λ bytes. Ok (value.Own (own.Key bytes)))
value_at Rest item = Ok (value.Text (rest_of item))
value_at Time item = next (time_of item) (λ number. Ok (value.Number number))
value_at Identity item = next (identity_of item) (λ identity. Ok (value.Fingerprint identity))
value_at Uptime item = next (first_of long_number item) (λ number. Ok (value.Own (own.Uptime number)))
value_at Bandwidth item = next (bandwidth_of item) (λ bandwidth. Ok (value.Own (own.Bandwidth bandwidth)))
value_at Hibernating item = next (first_of hibernating item) (λ rests. Ok (value.Own (own.Hibernating rests)))
value_at AnyObject item = next (object_of true item) (λ lines. Ok (value.Object lines))
value_at PaddedKey item = next (first_of padded_key item) (λ bytes. Ok (value.Own (own.Key bytes)))
value_at (Policy accept) item = next (first_of (item_of accept) item) (λ policy. Ok (value.Own (own.Policy policy)))
value_at PortsLine item = next (ports_of item) (λ text. Ok (value.Text text))
value_at Address item = next (address_of item) (λ text. Ok (value.Text text))
value_at Nothing item = Ok value.Nothing
value_at EdSignature item = next (first_of signature item) (λ bytes. Ok (value.Own (own.EdSignature bytes)))
value_at Signature item =
    next (object_of (has_words item.object (codes "SIGNATURE")) item) (λ lines. Ok (value.Object lines))
