-- What is known of relays, and what is ruled of them.
use Rattle.std.specs.Prelude.{ℕ, List, [], ◌∷◌, unwrap_or}
use Rattle.flag_rules.specs.declared.{relay.{RelayFacts.RelayFacts, RuledRelay.RuledRelay}, ruling.Ruling.Ruling}

-- the measured bandwidth, or else the one that the relay says, in kilobytes a second
abbrev pub bandwidth_of : RelayFacts → ℕ
bandwidth_of facts = unwrap_or facts.measured.kb facts.bandwidth_kb

-- relays, each with its ruling
abbrev pub ruled_relays : List RelayFacts → List Ruling → List RuledRelay
ruled_relays [] rulings = []
ruled_relays (facts ∷ relays) [] = []
ruled_relays (facts ∷ relays) (ruling ∷ rulings) =
    record { facts = facts; ruling = ruling } ∷ ruled_relays relays rulings
