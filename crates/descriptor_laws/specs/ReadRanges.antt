-- What is read of a server descriptor is in range (dir-spec, "Server descriptor format").
use Rattle.std.specs.Prelude.{◌≡◌, ℕ, ◌≤◌, List, length, All, IfSome, Ok}
use Rattle.base64.specs.GeneralPurpose.{IsBytes}
use Rattle.dir_bytes.specs.Causes.{last_moment}
use Rattle.dirdoc_grammar.specs.Writing.{IsLineRest}
use Rattle.group_laws.specs.Ranges.{AreThirtyTwo, IsAddressInRange, IsRelayInRange}
use Rattle.descriptor_doc.specs.{Reading.{descriptor_of, max_descriptor}, declared.descriptor.Descriptor.Descriptor}

-- a text that may be the rest of a line, of no more bytes than a descriptor has
pub record IsShortRest (text : List ℕ) : Type 0 where
  pub rest : IsLineRest text
  pub short : length text ≤ max_descriptor

-- an address that an entry may say, of no more bytes than a descriptor has
pub record IsShortAddress (text : List ℕ) : Type 0 where
  pub address : IsAddressInRange text
  pub short : length text ≤ max_descriptor

-- The descriptor's relay is one that an entry of a vote may say: its nickname, its identity, the descriptor's digest,
-- its IPv4 address and its ports. Its moment is one of the calendar, its certificate's signer has the bytes of an
-- Ed25519 key, and its platform, its protocols and its further addresses may stand in lines.
pub record IsDescriptorInRange (d : Descriptor) : Type 0 where
  pub router : IsRelayInRange d.router.nickname d.identity d.digest d.router.ip d.router.or_port d.router.dir_port
  pub socks_port : d.router.socks_port ≤ 65535
  pub published : d.published ≤ last_moment
  pub signer : IfSome d.identity_ed25519 (λ certificate. AreThirtyTwo certificate.signer)
  pub platform : IfSome d.platform IsShortRest
  pub proto : IfSome d.proto IsShortRest
  pub or_addresses : All IsShortAddress d.or_addresses

-- A descriptor that is read from bytes is in range.
abbrev pub DescriptorsReadAreInRange : Type 0
DescriptorsReadAreInRange = (input : List ℕ) (d : Descriptor) (used : ℕ) → IsBytes input
    → descriptor_of input ≡ Ok (d, used) → IsDescriptorInRange d
