-- What is known of each relay when its flags are assigned (dir-spec, "Assigning flags in a vote"): what its
-- descriptor says, and what was measured of it.
use Rattle.std.specs.{Prelude.{ℕ, ◌/◌, min, Bool, false, ◌&&◌, List, map, None, unwrap_or}, List.find}
use Rattle.std.specs.Option.{option_map}
use Rattle.dir_values.specs.{Digests.same_identity, Ports.{Ports, accepts}, declared.digest.Fingerprint.Fingerprint}
use Rattle.exit_summary.specs.Summaries.{summary_of}
use Rattle.descriptor_frame.specs.declared.said.BandwidthLine.{BandwidthLine}
use Rattle.descriptor_doc.specs.declared.descriptor.Descriptor.{Descriptor}
use Rattle.flag_rules.specs.declared.relay.{Measured.Measured, RelayFacts.RelayFacts}
use Rattle.station_input.specs.declared.frame_said.MeasuredRelay.{MeasuredRelay}

-- ---- what was measured

-- what is known of a relay that was not measured: it was never found reachable
abbrev pub unmeasured_relay : Measured
unmeasured_relay = record { reached_at = 0; wmtbf = 0; wfu_ppm = 0; known_for = 0; kb = None }

-- whether this was measured of the relay with an identity
abbrev pub is_of : Fingerprint → MeasuredRelay → Bool
is_of identity relay = same_identity relay.identity identity

-- what was measured of the relay with an identity, if something was
abbrev pub measured_for : List MeasuredRelay → Fingerprint → Measured
measured_for relays identity =
    unwrap_or (option_map (λ (relay : MeasuredRelay). relay.measured) (find (is_of identity) relays)) unmeasured_relay

-- ---- what its descriptor says

-- the most kilobytes a second that a vote tells of a relay
abbrev pub most_kilobytes : ℕ
most_kilobytes = 4294967295

-- what a relay says that it carries, in kilobytes a second: the smaller of its average and of what it was seen to
-- carry
abbrev pub kilobytes_of : BandwidthLine → ℕ
kilobytes_of line = min (min line.average line.observed / 1000) most_kilobytes

-- whether ports are accepted that the web uses: 80 and 443
abbrev pub accepts_web : Ports → Bool
accepts_web ports = accepts ports 80 && accepts ports 443

-- ---- both

-- what is known of the relay of a descriptor; one that does not say so does not rest and has just begun to run
abbrev pub known_of : List MeasuredRelay → Descriptor → RelayFacts
known_of measured d = record {
  identity = d.identity;
  published = d.published;
  ip = d.router.ip;
  dir_port = d.router.dir_port;
  tunnelled = d.tunnelled_dir_server;
  hibernating = unwrap_or d.hibernating false;
  uptime = unwrap_or d.uptime 0;
  bandwidth_kb = kilobytes_of d.bandwidth;
  exit_web = accepts_web (summary_of d.policy);
  measured = measured_for measured d.identity;
}

-- what is known of each of the relays
abbrev pub known_relays : List MeasuredRelay → List Descriptor → List RelayFacts
known_relays measured descriptors = map (known_of measured) descriptors
