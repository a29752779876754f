-- The flags of relays (dir-spec, "Assigning flags in a vote"; the table is this project's).
use Rattle.std.specs.Prelude.{ℕ, ◌+◌, ◌==◌, nat_le, nat_lt, Bool, false, not, ◌&&◌, ◌||◌, List, map, filter}
use Rattle.std.specs.Prelude.{if◌then◌else◌}
use Rattle.flag_rules.specs.declared.{relay.RuledRelay.RuledRelay, standing.Standing.Standing}
use Rattle.flag_rules.specs.{declared.{thresholds.Thresholds.Thresholds, flags.Flags.Flags}, Limits.fresh_seconds}
use Rattle.flag_rules.specs.Limits.{stable_seconds, fast_kilobytes, familiar_seconds, guard_kilobytes, hs_dir_seconds}
use Rattle.flag_rules.specs.{Relays.bandwidth_of, Rulings.{is_reject, is_bad_exit, is_middle_only}}
use Rattle.flag_rules.specs.Standings.{standings_of, is_running, is_valid, is_active}
use Rattle.count_terms.specs.Counts.{low_median, eighth_of}

-- what relays have: the mean times between their failures, their uptimes, bandwidths, and for how long they are known
abbrev pub failure_times : List Standing → List ℕ
failure_times relays = map (λ relay. relay.facts.measured.wmtbf) relays

abbrev pub fractional_uptimes : List Standing → List ℕ
fractional_uptimes relays = map (λ relay. relay.facts.measured.wfu_ppm) relays

-- the bandwidth of each relay
abbrev pub bandwidths : List Standing → List ℕ
bandwidths relays = map (λ relay. bandwidth_of relay.facts) relays

abbrev pub known_times : List Standing → List ℕ
known_times relays = map (λ relay. relay.facts.measured.known_for) relays

-- whether a relay is known for as long as the others ask, or for eight days
abbrev pub is_familiar : ℕ → Standing → Bool
is_familiar least relay =
    nat_le least relay.facts.measured.known_for || nat_le familiar_seconds relay.facts.measured.known_for

-- the familiar ones of the active relays
abbrev pub familiar_relays : List Standing → List Standing
familiar_relays active = filter (is_familiar (eighth_of 1 (known_times active))) active

-- what the active relays ask of the others
abbrev pub thresholds_of : List Standing → Thresholds
thresholds_of active = record {
  stable_wmtbf = low_median (failure_times active);
  fast_kb = eighth_of 1 (bandwidths active);
  guard_kb = eighth_of 6 (bandwidths active);
  guard_wfu_ppm = low_median (fractional_uptimes (familiar_relays active));
}

-- whether a relay is Stable
abbrev pub is_stable : ℕ → Thresholds → Standing → Bool
is_stable now least relay =
    is_active now relay
    && (nat_le least.stable_wmtbf relay.facts.measured.wmtbf || nat_le stable_seconds relay.facts.measured.wmtbf)

-- whether a relay is Fast
abbrev pub is_fast : ℕ → Thresholds → Standing → Bool
is_fast now least relay =
    is_active now relay
    && (nat_le least.fast_kb (bandwidth_of relay.facts) || nat_le fast_kilobytes (bandwidth_of relay.facts))

-- whether a relay serves directory documents
abbrev pub is_directory : ℕ → Standing → Bool
is_directory now relay = is_active now relay && (not (relay.facts.dir_port == 0) || relay.facts.tunnelled)

-- whether a relay is what both Guard and HSDir ask: Fast, Stable and a directory
abbrev pub is_sound : ℕ → Thresholds → Standing → Bool
is_sound now least relay = is_fast now least relay && is_stable now least relay && is_directory now relay

-- whether a relay is fit for Guard
abbrev pub is_guard : ℕ → Thresholds → Standing → Bool
is_guard now least relay =
    is_sound now least relay && nat_le least.guard_wfu_ppm relay.facts.measured.wfu_ppm
    && (nat_le least.guard_kb (bandwidth_of relay.facts) || nat_le guard_kilobytes (bandwidth_of relay.facts))

-- whether a relay is fit for HSDir
abbrev pub is_hs_dir : ℕ → Thresholds → Standing → Bool
is_hs_dir now least relay = is_sound now least relay && nat_le hs_dir_seconds relay.facts.uptime

-- whether a relay is fit for Exit
abbrev pub is_exit : ℕ → Standing → Bool
is_exit now relay = is_active now relay && relay.facts.exit_web

-- whether a descriptor is older than 18 hours
abbrev pub is_stale : ℕ → ℕ → Bool
is_stale now published = nat_lt (published + fresh_seconds) now

-- Sybil or not, and no other flag
abbrev pub sybil_alone : Bool → Flags
sybil_alone sybil = record {
  bad_exit = false;
  exit = false;
  fast = false;
  guard = false;
  hs_dir = false;
  middle_only = false;
  running = false;
  stable = false;
  stale_desc = false;
  sybil = sybil;
  v2_dir = false;
  valid = false;
}

-- the flags of a relay that is neither rejected nor a Sybil
abbrev pub own_flags : ℕ → Thresholds → Standing → Flags
own_flags now least relay =
    let anywhere = not (is_middle_only relay.ruling) in record {
      bad_exit = is_bad_exit relay.ruling;
      exit = is_exit now relay && anywhere;
      fast = is_fast now least relay;
      guard = is_guard now least relay && anywhere;
      hs_dir = is_hs_dir now least relay && anywhere;
      middle_only = is_middle_only relay.ruling;
      running = is_running now relay;
      stable = is_stable now least relay;
      stale_desc = is_stale now relay.facts.published;
      sybil = false;
      v2_dir = is_directory now relay && anywhere;
      valid = is_valid relay;
    }

-- the flags of a relay: none of one that is rejected, Sybil alone of one that is one too many
abbrev pub flags_with : ℕ → Thresholds → Standing → Flags
flags_with now least relay =
    if is_reject relay.ruling || relay.sybil then sybil_alone relay.sybil else own_flags now least relay

-- the flags of relays
unfoldable pub flags_of : ℕ → List RuledRelay → List Flags
flags_of now relays =
    let standings = standings_of now relays in
    map (flags_with now (thresholds_of (filter (is_active now) standings))) standings
