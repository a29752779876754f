-- A vote that is made with a bandwidth file is read as what it was made to say (dir-spec, "Vote and consensus status
-- document formats"; "Bandwidth File Format").
use Rattle.std.specs.Prelude.{◌≡◌, ℕ, ◌+◌, ◌≤◌, ◌<◌, ◌^◌, List, ◌++◌, length, All, Ok}
use Rattle.base64.specs.GeneralPurpose.{IsBytes}
use Rattle.dir_bytes.specs.Causes.{last_moment}
use Rattle.bandwidth_file.specs.{Files.IsBandFile, declared.file.BandFile.BandFile}
use Rattle.flag_rules.specs.declared.ruling.Ruling.{Ruling}
use Rattle.count_terms.specs.declared.newest.Newest.{Newest}
use Rattle.station_input.specs.{Reading.station_of, declared.facts.StationFacts.StationFacts}
use Rattle.vote_terms.specs.Votes.{ReadVote, max_vote}
use Rattle.vote_doc.specs.Reading.{vote_from}
use Rattle.vote_pool.specs.Pools.{DescriptorsAscend, most_relays}
use Rattle.vote_schedule.specs.{Moments.valid_until, Schedules.IsSchedule}
use Rattle.vote_laws.specs.Made.{IsMadeVote}
use Rattle.vote_maker.specs.Made.{Basis, schedule_in}
use Rattle.station_commands.specs.MeasuredTold.{told_relays}
use Rattle.maker_laws.specs.{Given.{IsDescriptor, IsStation}, ReadAsMade.{IsSigning, signed_facts, signed_made_text}}

-- What a station is given was read of an input, and what was measured has the bandwidths of a bandwidth file.
pub record IsToldStation (station : StationFacts) : Type 0 where
  pub content : List ℕ
  pub file : BandFile
  pub is_file : IsBandFile content file
  pub input : List ℕ
  pub bytes : IsBytes input
  pub newest : Newest
  pub given : StationFacts
  pub used : ℕ
  pub read : station_of newest input ≡ Ok (given, used)
  pub told : station ≡ record given { measured = told_relays file.relays given.measured }

-- It is what a station of a vote may be given.
abbrev pub ToldStationsAreStations : Type 0
ToldStationsAreStations = (station : StationFacts) → IsToldStation station → IsStation station

-- The station is such a one and has a schedule; the descriptors are those of a pool, each of which was read; the
-- moment of the vote, and that until which the consensus is to be valid, are moments.
pub record IsToldBasis (its : Basis) : Type 0 where
  pub station : IsToldStation its.station
  pub schedule : IsSchedule (schedule_in its.station)
  pub until : valid_until (schedule_in its.station) its.valid_after ≤ last_moment
  pub moment : its.moment ≤ last_moment
  pub ascend : DescriptorsAscend its.descriptors
  pub few : length its.descriptors ≤ most_relays
  pub descriptors : All IsDescriptor its.descriptors

-- Where the text of what is made of these is no longer than a vote may be, it is read as what is made, whatever stands
-- before it, of fewer than 2 ^ 62 bytes, and behind it, and has the bytes of the station's certificate.
abbrev pub FileVotesReadAsMade : Type 0
FileVotesReadAsMade = (front : List ℕ) (its : Basis) (rulings : List Ruling) (signature rest : List ℕ)
    → length front < 2 ^ 62 → IsToldBasis its → IsSigning its rulings signature
    → length (signed_made_text its rulings signature) ≤ max_vote
    → (vote : ReadVote)
    × (vote_from (length front) (front ++ (signed_made_text its rulings signature ++ rest))
    ≡ Ok (vote, length front + length (signed_made_text its rulings signature)))
    × IsMadeVote (signed_facts its rulings signature) its.station.certificate_bytes vote
