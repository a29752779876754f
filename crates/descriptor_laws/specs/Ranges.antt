-- What a server descriptor may say that is written and read again (dir-spec, "Server descriptor format").
use Rattle.std.specs.Prelude.{◌≡◌, IsTrue, ℕ, ◌<◌, ◌≤◌, ◌^◌, true, List, length, All, IfSome, Some}
use Rattle.base64.specs.GeneralPurpose.{IsBytes}
use Rattle.dir_bytes.specs.Causes.{last_moment}
use Rattle.dir_values.specs.{Names.is_nickname, Ports.are_ranges, declared.policy.{Net.Net, PolicyItem.PolicyItem}}
use Rattle.dir_values.specs.declared.policy.Net.TheVariants as net
use Rattle.dirdoc_grammar.specs.{Writers.is_argument, Writing.AreWritable}
use Rattle.descriptor_frame.specs.{Certificates.certificate_of, declared.certificate.EdCert.EdCert}
use Rattle.descriptor_frame.specs.{declared.said.BandwidthLine.BandwidthLine, Fields.is_address}
use Rattle.frame_values.specs.Ranges.{AreTwenty}
use Rattle.descriptor_doc.specs.{declared.descriptor.{Descriptor.Descriptor, Router.Router}, Reading.max_descriptor}
use Rattle.descriptor_text.specs.Texts.{certificate_bytes, descriptor_items}

-- there are so many bytes
pub record AreBytes (count : ℕ) (bytes : List ℕ) : Type 0 where
  pub count_is : length bytes ≡ count
  pub each : IsBytes bytes

-- each part of a relay's line is one that such a line may have
pub record IsRouterInRange (router : Router) : Type 0 where
  pub nickname_is : is_nickname router.nickname ≡ true
  pub ip_is : router.ip < 2 ^ 32
  pub or_port_is : router.or_port ≤ 65535
  pub socks_port_is : router.socks_port ≤ 65535
  pub dir_port_is : router.dir_port ≤ 65535

-- each number of bytes is one of 64 bits
pub record IsBandwidthInRange (line : BandwidthLine) : Type 0 where
  pub average_is : line.average < 2 ^ 64
  pub burst_is : line.burst < 2 ^ 64
  pub observed_is : line.observed < 2 ^ 64

-- an IPv4 address has 32 bits, of which no more count
abbrev pub IsNetInRange : Net → Type 0
IsNetInRange (net.V4 address bits) = (address < 2 ^ 32) × (bits ≤ 32)
IsNetInRange _ = Unit {0}

-- its ports ascend
pub record IsItemInRange (item : PolicyItem) : Type 0 where
  pub net_is : IsNetInRange item.net
  pub ports_are : item.low ≤ item.high
  pub high_is : item.high ≤ 65535

-- a certificate says what its bytes say: those that are signed, and the signature
pub record IsCertificateInRange (certificate : EdCert) : Type 0 where
  pub says : certificate_of (certificate_bytes certificate) ≡ Some certificate
  pub each : IsBytes (certificate_bytes certificate)

-- the text is one word, which ends with a colon and a port
pub record IsAddressInRange (text : List ℕ) : Type 0 where
  pub word : is_argument text ≡ true
  pub address : is_address text ≡ true

-- each of the descriptor's values is one that can be read
pub record SaysInRange (d : Descriptor) : Type 0 where
  pub router : IsRouterInRange d.router
  pub identity_ed25519 : IfSome d.identity_ed25519 IsCertificateInRange
  pub master_key_ed25519 : IfSome d.master_key_ed25519 (AreBytes 32)
  pub published : d.published ≤ last_moment
  pub fingerprint : IfSome d.fingerprint (λ identity. AreTwenty identity.0)
  pub uptime : IfSome d.uptime (λ seconds. seconds < 2 ^ 64)
  pub bandwidth : IsBandwidthInRange d.bandwidth
  pub ntor_onion_key : IfSome d.ntor_onion_key (AreBytes 32)
  pub policy : All IsItemInRange d.policy
  pub ipv6_policy : IfSome d.ipv6_policy (λ ports. IsTrue (are_ranges ports.ranges))
  pub family : IfSome d.family (λ relays. All (λ relay. is_argument relay ≡ true) relays)
  pub or_addresses : All IsAddressInRange d.or_addresses
  pub router_sig_ed25519 : IfSome d.router_sig_ed25519 (λ signature. AreBytes 64 signature.signature)

-- The descriptor says what can be read, and its items may be written: its objects are bytes, and no line, no object and not
-- the whole passes its limit.
pub record IsInRange (d : Descriptor) : Type 0 where
  pub says : SaysInRange d
  pub items : AreWritable max_descriptor 0 (descriptor_items d)
