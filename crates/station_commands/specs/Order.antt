-- Whether what a station is given is in order: its roster, its schedule, and its own authority among the others.
use Rattle.std.specs.Prelude.{◌≡◌, true, false, List, map, Result, Ok, Err}
use Rattle.dir_values.specs.{Rosters.{has_member, roster_of}, declared.digest.Fingerprint.Fingerprint}
use Rattle.dir_values.specs.declared.roster.RosterFault.{RosterFault}
use Rattle.daemon_words.specs.declared.stop.Stop.{Stop}
use Rattle.daemon_words.specs.declared.stop.Stop.TheVariants as stop
use Rattle.station_commands.specs.declared.refusal.OrderWord.{OrderWord}
use Rattle.station_commands.specs.declared.refusal.OrderWord.TheVariants as word
use Rattle.station_input.specs.declared.facts.{Peer.Peer, StationFacts.StationFacts}
use Rattle.vote_schedule.specs.{Schedules.{Schedule, schedule_of}, declared.config.ScheduleFault.ScheduleFault}

-- the identities of authorities
abbrev pub identities_of : List Peer → List Fingerprint
identities_of authorities = map (λ (peer : Peer). peer.identity) authorities

-- the roster of a station's network, or why its authorities are none
abbrev pub roster_in : StationFacts → Result (List Fingerprint) RosterFault
roster_in station = roster_of (identities_of station.authorities)

-- the schedule of a station's network, or why its three numbers are none
abbrev pub schedule_given : StationFacts → Result Schedule ScheduleFault
schedule_given station = schedule_of station.interval station.vote_seconds station.dist_seconds

-- The authorities are a roster, the three numbers are this schedule, and the own authority is a member.
pub record IsInOrder (station : StationFacts) (schedule : Schedule) : Type 0 where
  pub roster : List Fingerprint
  pub members : roster_in station ≡ Ok roster
  pub scheduled : schedule_given station ≡ Ok schedule
  pub own : has_member roster station.identity ≡ true

-- The authorities are a roster, and the three numbers are no schedule.
pub record HasNoSchedule (station : StationFacts) : Type 0 where
  pub roster : List Fingerprint
  pub members : roster_in station ≡ Ok roster
  pub fault : ScheduleFault
  pub scheduled : schedule_given station ≡ Err fault

-- The authorities are a roster, the three numbers are a schedule, and the own authority is no member.
pub record IsNoMember (station : StationFacts) : Type 0 where
  pub roster : List Fingerprint
  pub members : roster_in station ≡ Ok roster
  pub schedule : Schedule
  pub scheduled : schedule_given station ≡ Ok schedule
  pub own : has_member roster station.identity ≡ false

-- what a station is given is not in order, for this reason, the first
abbrev pub IsOutOfOrder : StationFacts → OrderWord → Type 0
IsOutOfOrder station word.Roster = (fault : RosterFault) × (roster_in station ≡ Err fault)
IsOutOfOrder station word.Schedule = HasNoSchedule station
IsOutOfOrder station word.Own = IsNoMember station

-- the schedule of a station that is in order, or why it is not, or there was no memory
abbrev pub GivesSchedule : StationFacts → Result Schedule (Stop OrderWord) → Type 0
GivesSchedule given (Ok schedule) = IsInOrder given schedule
GivesSchedule given (Err stop.Memory) = Unit {0}
GivesSchedule given (Err (stop.Refused why)) = IsOutOfOrder given why
