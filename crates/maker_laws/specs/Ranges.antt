-- What is read of a station input is in range (dir-spec, "Vote and consensus status document formats").
use Rattle.std.specs.Prelude.{◌≡◌, ℕ, ◌≤◌, ◌<◌, ◌^◌, true, List, All, IfSome, Ok}
use Rattle.base64.specs.GeneralPurpose.{IsBytes}
use Rattle.dir_values.specs.Names.{is_nickname}
use Rattle.dirdoc_grammar.specs.{Writers.is_argument, Writing.IsLineRest}
use Rattle.frame_values.specs.Ranges.{AreTwenty}
use Rattle.authority_certs.specs.declared.cert.Cert.{Cert}
use Rattle.certificate_laws.specs.Again.{SaysInRange}
use Rattle.station_input.specs.declared.{frame_said.MeasuredRelay.MeasuredRelay, facts.StationFacts.StationFacts}
use Rattle.station_input.specs.Reading.{station_of}
use Rattle.count_terms.specs.declared.newest.Newest.{Newest}
use Rattle.vote_laws.specs.Again.{AreListsInRange}

-- where a bandwidth was measured of a relay it has 32 bits
abbrev pub IsMeasuredInRange : MeasuredRelay → Type 0
IsMeasuredInRange relay = IfSome relay.measured.kb (λ kb. kb ≤ 4294967295)

-- the keys and signatures of a certificate are bytes
pub record HasKeyBytes (cert : Cert) : Type 0 where
  pub identity_key : IsBytes cert.identity_key
  pub signing_key : IsBytes cert.signing_key
  pub crosscert : IsBytes cert.crosscert
  pub certification : IsBytes cert.certification

-- What a station is given says what a vote can say: each number, text and list is one that an item of a vote may have.
pub record IsStationInRange (facts : StationFacts) : Type 0 where
  pub nickname : is_nickname facts.nickname ≡ true
  pub identity : AreTwenty facts.identity.0
  pub address : is_argument facts.address ≡ true
  pub ip : facts.ip < 2 ^ 32
  pub dir_port : facts.dir_port ≤ 65535
  pub or_port : facts.or_port ≤ 65535
  pub contact : IfSome facts.contact IsLineRest
  pub lists : AreListsInRange facts.lists
  pub measured : All IsMeasuredInRange facts.measured
  pub certificate : SaysInRange facts.certificate
  pub keys : HasKeyBytes facts.certificate

-- What is read of bytes is such.
abbrev pub StationsReadAreInRange : Type 0
StationsReadAreInRange = (newest : Newest) (bytes : List ℕ) (facts : StationFacts) (used : ℕ) → IsBytes bytes
    → station_of newest bytes ≡ Ok (facts, used) → IsStationInRange facts
