-- Why a station can make no vote: the line and the number of each reason.
use Rattle.std.specs.Prelude.{ℕ, List, [], ◌∷◌, codes, decimal}
use Rattle.daemon_words.specs.declared.command.Kind.TheVariants as kind
use Rattle.station_commands.specs.declared.refusal.{CertWord.CertWord, DescriptorWord.DescriptorWord}
use Rattle.station_commands.specs.declared.refusal.{OrderWord.OrderWord, StationRefusal.StationRefusal}
use Rattle.station_commands.specs.declared.refusal.CertWord.TheVariants as cert
use Rattle.station_commands.specs.declared.refusal.DescriptorWord.TheVariants as descriptor
use Rattle.station_commands.specs.declared.refusal.OrderWord.TheVariants as word
use Rattle.station_commands.specs.declared.refusal.StationRefusal.TheVariants as station
use Rattle.exit_status.specs.{DocumentLines.{document_limit, fault_number, fault_parts}, Parts.end}

-- the word of a line for what is wrong with what a station is given
abbrev pub order_text : OrderWord → List ℕ
order_text word.Roster = codes "roster"
order_text word.Schedule = codes "schedule"
order_text word.Own = codes "own"

-- the word of a line for the clause that a descriptor fails
abbrev pub descriptor_text : DescriptorWord → List ℕ
descriptor_text descriptor.Identity = codes "identity"
descriptor_text descriptor.Signature = codes "signature"
descriptor_text descriptor.Ed25519 = codes "ed25519"

-- the word of a line for the clause that the own certificate fails
abbrev pub cert_text : CertWord → List ℕ
cert_text cert.Fingerprint = codes "fingerprint"
cert_text cert.Expired = codes "expired"
cert_text cert.Certification = codes "certification"
cert_text cert.Crosscert = codes "crosscert"

-- that a descriptor does not hold
abbrev pub descriptor_parts : ℕ → DescriptorWord → List (List ℕ)
descriptor_parts number why =
    codes "descriptor " ∷ decimal number ∷ codes " refused: " ∷ descriptor_text why ∷ end ∷ []

-- a station input may be as long as the input of a command
abbrev pub station_limit : List ℕ
station_limit = codes "input 268435456"

-- what is wrong with what a station is given, or with the time
abbrev pub word_parts : List ℕ → List (List ℕ)
word_parts why = codes "station refused: " ∷ why ∷ end ∷ []

-- why a station can make no vote
abbrev pub station_parts : StationRefusal → List (List ℕ)
station_parts (station.Fault fault) = fault_parts station_limit fault.place fault.reason
station_parts (station.Order why) = word_parts (order_text why)
station_parts (station.NoDescriptor fault) = fault_parts (document_limit kind.Descriptor) fault.place fault.reason
station_parts (station.Descriptor number why) = descriptor_parts number why
station_parts station.PoolFull = word_parts (codes "pool")
station_parts station.EndOfTime = word_parts (codes "end of time")
station_parts (station.OwnCert why) = codes "own certificate refused: " ∷ cert_text why ∷ end ∷ []

-- the number of each reason
abbrev pub station_number : StationRefusal → ℕ
station_number (station.Fault fault) = fault_number fault.reason
station_number (station.Order why) = 13
station_number (station.NoDescriptor fault) = fault_number fault.reason
station_number (station.Descriptor number why) = 6
station_number station.PoolFull = 13
station_number station.EndOfTime = 13
station_number (station.OwnCert why) = 12
