-- The rests of a server descriptor's lines, in the one text in which they are written (dir-spec, "Server descriptor
-- format").
use Rattle.std.specs.Prelude.{ℕ, zero, suc, Bool, List, [], ◌∷◌, ◌++◌, map, take, drop, codes, decimal, if◌then◌else◌}
use Rattle.std.specs.List.{join_with_byte}
use Rattle.item_terms.specs.Bytes.{space}
use Rattle.dir_bytes.specs.FieldTexts.{address_text, base64_text, hex_text}
use Rattle.dir_values.specs.declared.digest.Fingerprint.{Fingerprint}
pub use Rattle.descriptor_frame.specs.Families.{family_text}
use Rattle.descriptor_frame.specs.declared.said.BandwidthLine.{BandwidthLine}
use Rattle.descriptor_doc.specs.declared.descriptor.{EdSignature.EdSignature, Router.Router}

-- its three ports: ORPort, SOCKSPort, DirPort
abbrev pub ports_text : Router → List ℕ
ports_text router = decimal router.or_port ++ space ∷ decimal router.socks_port ++ space ∷ decimal router.dir_port

-- a relay: its nickname, its IPv4 address and its ports
abbrev pub router_text : Router → List ℕ
router_text router = router.nickname ++ space ∷ address_text router.ip ++ space ∷ ports_text router

-- what it can carry: average, burst and observed bytes a second
abbrev pub bandwidth_text : BandwidthLine → List ℕ
bandwidth_text line = decimal line.average ++ space ∷ decimal line.burst ++ space ∷ decimal line.observed

-- so many groups of two bytes, from the first byte on
unfoldable pub groups_from : ℕ → List ℕ → List (List ℕ)
groups_from zero bytes = []
groups_from (suc count) bytes = take 2 bytes ∷ groups_from count (drop 2 bytes)

-- an identity in ten groups of four hex digits
abbrev pub groups_text : Fingerprint → List ℕ
groups_text identity = join_with_byte space (map hex_text (groups_from 10 identity.0))

-- whether a relay rests
abbrev pub hibernating_text : Bool → List ℕ
hibernating_text rests = if rests then codes "1" else codes "0"

-- an Ed25519 signature
abbrev pub ed_signature_text : EdSignature → List ℕ
ed_signature_text signature = base64_text signature.signature
