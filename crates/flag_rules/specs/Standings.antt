-- Relays among each other: those that are reached, those of an address that are too many, and those that count.
use Rattle.std.specs.Prelude.{ℕ, ◌-◌, ◌==◌, nat_le, nat_lt, Bool, not, ◌&&◌, ◌||◌, List, map, filter, count_by}
use Rattle.dir_values.specs.Digests.{identity_below}
use Rattle.flag_rules.specs.declared.{relay.{RelayFacts.RelayFacts, RuledRelay.RuledRelay}, ruling.Ruling.Ruling}
use Rattle.flag_rules.specs.{declared.standing.Standing.Standing, Limits.{reached_seconds, most_at_address}}
use Rattle.flag_rules.specs.{Relays.bandwidth_of, Rulings.{is_reject, lets_valid}}

-- whether a relay was found reachable within 45 minutes, is awake and is not rejected
abbrev pub is_reached : ℕ → RelayFacts → Ruling → Bool
is_reached now facts ruling =
    not (facts.measured.reached_at == 0) && nat_le facts.measured.reached_at now
    && nat_le (now - facts.measured.reached_at) reached_seconds && not facts.hibernating && not (is_reject ruling)

-- the relays that are reached
abbrev pub reached_relays : ℕ → List RuledRelay → List RuledRelay
reached_relays now relays = filter (λ relay. is_reached now relay.facts relay.ruling) relays

-- whether a relay has the address of another and goes before it: by the greater bandwidth, then by the smaller identity
abbrev pub is_ahead : RelayFacts → RelayFacts → Bool
is_ahead one other =
    (one.ip == other.ip)
    && (nat_lt (bandwidth_of other) (bandwidth_of one)
    || ((bandwidth_of one == bandwidth_of other) && identity_below one.identity other.identity))

-- how many relays of its address go before a relay
abbrev pub count_ahead : List RuledRelay → RelayFacts → ℕ
count_ahead relays facts = count_by (λ other. is_ahead other.facts facts) relays

-- whether a relay is one too many at its address: it is reached, and at least two that are reached go before it
abbrev pub is_sybil : ℕ → List RuledRelay → RuledRelay → Bool
is_sybil now relays relay =
    is_reached now relay.facts relay.ruling
    && nat_le most_at_address (count_ahead (reached_relays now relays) relay.facts)

-- a relay among others
abbrev pub standing_of : ℕ → List RuledRelay → RuledRelay → Standing
standing_of now relays relay = record {
  facts = relay.facts;
  ruling = relay.ruling;
  sybil = is_sybil now relays relay;
}

-- relays among each other
abbrev pub standings_of : ℕ → List RuledRelay → List Standing
standings_of now relays = map (standing_of now relays) relays

-- whether a relay is Running
abbrev pub is_running : ℕ → Standing → Bool
is_running now relay = is_reached now relay.facts relay.ruling && not relay.sybil

-- whether a relay is Valid
abbrev pub is_valid : Standing → Bool
is_valid relay = lets_valid relay.ruling && not relay.sybil

-- whether a relay is active: the medians and eighths are taken over the active ones
abbrev pub is_active : ℕ → Standing → Bool
is_active now relay = is_running now relay && is_valid relay
