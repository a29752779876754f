-- Of what a vote may be made: what was read of a station input and of descriptors, at moments within the calendar.
use Rattle.std.specs.Prelude.{◌≡◌, ℕ, ◌≤◌, List, length, All, Ok}
use Rattle.base64.specs.GeneralPurpose.{IsBytes}
use Rattle.dir_bytes.specs.Causes.{last_moment}
use Rattle.count_terms.specs.declared.newest.Newest.{Newest}
use Rattle.descriptor_doc.specs.{Reading.descriptor_under, declared.descriptor.Descriptor.Descriptor}
use Rattle.station_input.specs.{Reading.station_of, declared.facts.StationFacts.StationFacts}
use Rattle.maker_laws.specs.Ranges.{IsMeasuredInRange}
use Rattle.vote_pool.specs.Pools.{DescriptorsAscend, most_relays}
use Rattle.vote_schedule.specs.{Moments.valid_until, Schedules.IsSchedule}
use Rattle.vote_maker.specs.Made.{Basis, schedule_in}

-- What a station is given was read of an input, but for what was measured of relays, which a bandwidth file may tell
-- in its place and which is in range.
pub record IsStation (station : StationFacts) : Type 0 where
  pub input : List ℕ
  pub bytes : IsBytes input
  pub newest : Newest
  pub given : StationFacts
  pub used : ℕ
  pub read : station_of newest input ≡ Ok (given, used)
  pub same : station ≡ record given { measured = station.measured }
  pub measured : All IsMeasuredInRange station.measured

-- What was read is such.
abbrev pub StationsReadAreStations : Type 0
StationsReadAreStations = (newest : Newest) (input : List ℕ) (station : StationFacts) (used : ℕ) → IsBytes input
    → station_of newest input ≡ Ok (station, used) → IsStation station

-- What a descriptor says was read of an input, which it begins, by an authority with some newest method.
pub record IsDescriptor (d : Descriptor) : Type 0 where
  pub newest : Newest
  pub input : List ℕ
  pub bytes : IsBytes input
  pub used : ℕ
  pub read : descriptor_under newest input ≡ Ok (d, used)

-- The station is such a one and has a schedule; the descriptors are those of a pool, each of which was read; the
-- moment of the vote, and that until which the consensus is to be valid, are moments.
pub record IsBasis (its : Basis) : Type 0 where
  pub station : IsStation its.station
  pub schedule : IsSchedule (schedule_in its.station)
  pub until : valid_until (schedule_in its.station) its.valid_after ≤ last_moment
  pub moment : its.moment ≤ last_moment
  pub ascend : DescriptorsAscend its.descriptors
  pub few : length its.descriptors ≤ most_relays
  pub descriptors : All IsDescriptor its.descriptors
