-- Lines of server descriptors that were written are read again (dir-spec, "Server descriptor format").
use Rattle.std.specs.Prelude.{◌≡◌, ℕ, ◌<◌, ◌^◌, Bool, List, ◌++◌, Ok, decimal}
use Rattle.item_terms.specs.Words.{argument_start}
use Rattle.dir_bytes.specs.FieldTexts.{base64_text}
use Rattle.dir_values.specs.declared.{digest.Fingerprint.Fingerprint, policy.PolicyItem.PolicyItem}
use Rattle.dirdoc_grammar.specs.Writing.{tail, written}
use Rattle.frame_terms.specs.{Keywords.text_of, declared.keyword.Keyword.Keyword}
use Rattle.frame_values.specs.{Fields.span, Items.bare, Ranges.AreTwenty}
use Rattle.exit_summary.specs.{PolicyItems.item_of, Texts.item_text}
use Rattle.descriptor_frame.specs.{Fields.{hibernating, key, long_number, padded_key, signature}, Lines.bandwidth_of}
use Rattle.descriptor_frame.specs.{Lines.{first_of, identity_of, router_of}, declared.said.BandwidthLine.BandwidthLine}
use Rattle.descriptor_frame.specs.declared.said.RouterLine.{RouterLine}
use Rattle.descriptor_doc.specs.declared.descriptor.Router.{Router}
use Rattle.descriptor_text.specs.Lines.{bandwidth_text, groups_text, hibernating_text, router_text}
use Rattle.descriptor_laws.specs.Ranges.{AreBytes, IsBandwidthInRange, IsItemInRange, IsRouterInRange}

-- where the rest of a line begins that was written at a place
abbrev pub rest_start : ℕ → Keyword → List ℕ → ℕ
rest_start place keyword rest = argument_start place (text_of keyword ++ tail rest)

-- what a relay's line says whose nickname stands at a place
abbrev pub router_at : ℕ → Router → RouterLine
router_at start router = record {
  nickname = span start router.nickname;
  ip = router.ip;
  or_port = router.or_port;
  socks_port = router.socks_port;
  dir_port = router.dir_port;
}

-- a relay's line is read as it was written
abbrev pub RouterLinesAreReadAgain : Type 0
RouterLinesAreReadAgain = (place : ℕ) (keyword : Keyword) (router : Router) → IsRouterInRange router
    → router_of (written place (bare keyword (router_text router)))
    ≡ Ok (router_at (rest_start place keyword (router_text router)) router)

-- so is a line of what a relay can carry
abbrev pub BandwidthLinesAreReadAgain : Type 0
BandwidthLinesAreReadAgain = (place : ℕ) (keyword : Keyword) (line : BandwidthLine) → IsBandwidthInRange line
    → bandwidth_of (written place (bare keyword (bandwidth_text line))) ≡ Ok line

-- so is an identity in ten groups
abbrev pub IdentityLinesAreReadAgain : Type 0
IdentityLinesAreReadAgain = (place : ℕ) (keyword : Keyword) (identity : Fingerprint) → AreTwenty identity.0
    → identity_of (written place (bare keyword (groups_text identity))) ≡ Ok identity

-- so is an item of an exit policy
abbrev pub PolicyLinesAreReadAgain : Type 0
PolicyLinesAreReadAgain = (place : ℕ) (keyword : Keyword) (item : PolicyItem) → IsItemInRange item
    → first_of (item_of item.accept) (written place (bare keyword (item_text item))) ≡ Ok item

-- so are the seconds for which a relay runs
abbrev pub UptimeLinesAreReadAgain : Type 0
UptimeLinesAreReadAgain = (place : ℕ) (keyword : Keyword) (seconds : ℕ) → seconds < 2 ^ 64
    → first_of long_number (written place (bare keyword (decimal seconds))) ≡ Ok seconds

-- so is whether it rests
abbrev pub HibernatingLinesAreReadAgain : Type 0
HibernatingLinesAreReadAgain = (place : ℕ) (keyword : Keyword) (rests : Bool)
    → first_of hibernating (written place (bare keyword (hibernating_text rests))) ≡ Ok rests

-- so is a key, also where it may be padded
abbrev pub KeyLinesAreReadAgain : Type 0
KeyLinesAreReadAgain = (place : ℕ) (keyword : Keyword) (bytes : List ℕ) → AreBytes 32 bytes
    → (first_of key (written place (bare keyword (base64_text bytes))) ≡ Ok bytes)
    × (first_of padded_key (written place (bare keyword (base64_text bytes))) ≡ Ok bytes)

-- so is an Ed25519 signature
abbrev pub SignatureLinesAreReadAgain : Type 0
SignatureLinesAreReadAgain = (place : ℕ) (keyword : Keyword) (bytes : List ℕ) → AreBytes 64 bytes
    → first_of signature (written place (bare keyword (base64_text bytes))) ≡ Ok bytes

-- Lines that were written are read as what they were written for.
pub record DescriptorLinesAreReadAgain : Type 0 where
  pub routers : RouterLinesAreReadAgain
  pub bandwidths : BandwidthLinesAreReadAgain
  pub identities : IdentityLinesAreReadAgain
  pub policies : PolicyLinesAreReadAgain
  pub uptimes : UptimeLinesAreReadAgain
  pub hibernating : HibernatingLinesAreReadAgain
  pub keys : KeyLinesAreReadAgain
  pub signatures : SignatureLinesAreReadAgain
