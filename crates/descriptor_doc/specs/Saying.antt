-- What the items of a descriptor say. Where an item is not there, or says something else, its value is nothing.
use Rattle.std.specs.Prelude.{ℕ, Bool, List, is_some, Option, Some, None, if◌then◌else◌}
use Rattle.dir_values.specs.declared.{digest.Fingerprint.Fingerprint, policy.PolicyItem.PolicyItem}
use Rattle.exit_summary.specs.Policies.{is_net}
use Rattle.frame_terms.specs.{declared.{document.Taken.Taken, keyword.Keyword.TheVariants.OrAddress}, Keywords.same}
use Rattle.frame_values.specs.{declared.{found.Span.Span, values.Value.Value}, Values.{nowhere, own_in, value_if}}
use Rattle.frame_values.specs.Values.{text_of_value}
use Rattle.frame_values.specs.declared.values.Value.TheVariants as value
use Rattle.descriptor_frame.specs.declared.said.{BandwidthLine.BandwidthLine, DescriptorValue.DescriptorValue}
use Rattle.descriptor_frame.specs.declared.said.RouterLine.{RouterLine}
use Rattle.descriptor_frame.specs.declared.said.DescriptorValue.TheVariants as own

-- an item, if there is one
abbrev pub ItemIf : Type 0
ItemIf = Option (Taken (Value DescriptorValue))

-- a relay of which nothing is known
abbrev pub no_router : RouterLine
no_router = record { nickname = nowhere; ip = 0; or_port = 0; socks_port = 0; dir_port = 0 }

-- the relay that a value is
abbrev pub router_of_value : Option DescriptorValue → RouterLine
router_of_value (Some (own.Router router)) = router
router_of_value _ = no_router

-- the relay that an item says
abbrev pub router_in : ItemIf → RouterLine
router_in item = router_of_value (own_in item)

-- the key that a value is
abbrev pub key_of_value : Option DescriptorValue → Option (List ℕ)
key_of_value (Some (own.Key key)) = Some key
key_of_value _ = None

-- the key that an item says
abbrev pub key_in : ItemIf → Option (List ℕ)
key_in item = key_of_value (own_in item)

-- the seconds that a value is
abbrev pub uptime_of_value : Option DescriptorValue → Option ℕ
uptime_of_value (Some (own.Uptime seconds)) = Some seconds
uptime_of_value _ = None

-- the seconds that an item says
abbrev pub uptime_in : ItemIf → Option ℕ
uptime_in item = uptime_of_value (own_in item)

-- no bandwidth
abbrev pub no_bandwidth : BandwidthLine
no_bandwidth = record { average = 0; burst = 0; observed = 0 }

-- the bandwidth that a value is
abbrev pub bandwidth_of_value : Option DescriptorValue → BandwidthLine
bandwidth_of_value (Some (own.Bandwidth bandwidth)) = bandwidth
bandwidth_of_value _ = no_bandwidth

-- the bandwidth that an item says
abbrev pub bandwidth_in : ItemIf → BandwidthLine
bandwidth_in item = bandwidth_of_value (own_in item)

-- whether a relay rests, if a value says it
abbrev pub hibernating_of_value : Option DescriptorValue → Option Bool
hibernating_of_value (Some (own.Hibernating rests)) = Some rests
hibernating_of_value _ = None

-- whether a relay rests, if an item says it
abbrev pub hibernating_in : ItemIf → Option Bool
hibernating_in item = hibernating_of_value (own_in item)

-- the Ed25519 signature that a value is
abbrev pub ed_signature_of_value : Option DescriptorValue → Option (List ℕ)
ed_signature_of_value (Some (own.EdSignature signature)) = Some signature
ed_signature_of_value _ = None

-- the Ed25519 signature that an item says
abbrev pub ed_signature_in : ItemIf → Option (List ℕ)
ed_signature_in item = ed_signature_of_value (own_in item)

-- where the lines of an object stand, if a value is one
abbrev pub object_if_value : Value DescriptorValue → Option Span
object_if_value (value.Object lines) = Some lines
object_if_value _ = None

-- where the lines of an item's object stand, if there is one
abbrev pub object_if : ItemIf → Option Span
object_if item = object_if_value (value_if item)

-- the identity that a value is, if it is one
abbrev pub fingerprint_if_value : Value DescriptorValue → Option Fingerprint
fingerprint_if_value (value.Fingerprint identity) = Some identity
fingerprint_if_value _ = None

-- the identity that an item says, if there is one
abbrev pub fingerprint_if : ItemIf → Option Fingerprint
fingerprint_if item = fingerprint_if_value (value_if item)

-- whether there is an item
abbrev pub is_there : ItemIf → Bool
is_there item = is_some item

-- ---- items that may stand several times

-- The item of the exit policy that a value is, if it is one. Of each that is read no more than 32 bits of an IPv4 address
-- count, so that none is lost.
abbrev pub policy_of_value : Value DescriptorValue → Option PolicyItem
policy_of_value (value.Own (own.Policy item)) = if is_net item.net then Some item else None
policy_of_value _ = None

-- the item of the exit policy that an item says
abbrev pub policy_if : Taken (Value DescriptorValue) → Option PolicyItem
policy_if one = policy_of_value one.value

-- where the further address stands that an item says
abbrev pub address_if : Taken (Value DescriptorValue) → Option Span
address_if one = if same one.keyword OrAddress then text_of_value one.value else None
