-- What a document may say of a relay that is written and read again (dir-spec, "Vote and consensus status document
-- formats").
use Rattle.std.specs.Prelude.{◌≡◌, ℕ, ◌<◌, ◌≤◌, ◌^◌, true, List, length, All, IfSome}
use Rattle.base64.specs.GeneralPurpose.{IsBytes}
use Rattle.dir_values.specs.{Names.is_nickname, declared.digest.{Digest1.Digest1, Fingerprint.Fingerprint}}
use Rattle.dirdoc_grammar.specs.Writers.{is_argument}
use Rattle.frame_values.specs.Ranges.{AreTwenty}
use Rattle.relay_entries.specs.{Fields.is_address, declared.said.{Bandwidths.Bandwidths, EdOpinion.EdOpinion}}
use Rattle.relay_entries.specs.declared.said.EdOpinion.TheVariants as opinion

-- the bytes are thirty-two, as those of a SHA-256 or of an Ed25519 key
pub record AreThirtyTwo (bytes : List ℕ) : Type 0 where
  pub count : length bytes ≡ 32
  pub each : IsBytes bytes

-- each part of a relay's line is one that such a line may have
pub record IsRelayInRange (nickname : List ℕ) (identity : Fingerprint) (digest : Digest1)
    (ip or_port dir_port : ℕ) : Type 0 where
  pub nickname_is : is_nickname nickname ≡ true
  pub identity_is : AreTwenty identity.0
  pub digest_is : AreTwenty digest.0
  pub ip_is : ip < 2 ^ 32
  pub or_port_is : or_port ≤ 65535
  pub dir_port_is : dir_port ≤ 65535

-- the text is one word, which ends with a colon and a port
pub record IsAddressInRange (text : List ℕ) : Type 0 where
  pub word : is_argument text ≡ true
  pub address : is_address text ≡ true

-- each bandwidth is a number of 32 bits
pub record AreBandwidthsInRange (w : Bandwidths) : Type 0 where
  pub bandwidth : IfSome w.bandwidth (λ number. number ≤ 4294967295)
  pub measured : IfSome w.measured (λ number. number ≤ 4294967295)

-- there is a method, and each is a number of 32 bits
pub record AreMethodsInRange (methods : List ℕ) : Type 0 where
  pub some : 1 ≤ length methods
  pub each : All (λ method. method ≤ 4294967295) methods

-- a key has thirty-two bytes
abbrev pub IsOpinionInRange : EdOpinion → Type 0
IsOpinionInRange (opinion.Key bytes) = AreThirtyTwo bytes
IsOpinionInRange _ = Unit {0}
