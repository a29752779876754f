-- How a refusal of a call is told as the command's.
use Rattle.frame_terms.specs.declared.fault.FrameFault.{FrameFault}
use Rattle.daemon_words.specs.{Stops.told_as, declared.stop.Stop.Stop}
use Rattle.station_commands.specs.Told as station
use Rattle.station_commands.specs.declared.refusal.MakeVoteRefusal.{MakeVoteRefusal}
use Rattle.station_commands.specs.declared.file_refusal.BandwidthRefusal.{BandwidthRefusal}
use Rattle.station_commands.specs.declared.file_refusal.FileVoteRefusal.{FileVoteRefusal}
use Rattle.station_commands.specs.declared.file_refusal.FileVoteRefusal.TheVariants as refusal

-- that the input gives no bandwidth file that counts
abbrev pub by_file : BandwidthRefusal → FileVoteRefusal
by_file why = refusal.File why

abbrev pub of_file : Stop BandwidthRefusal → Stop FileVoteRefusal
of_file given = told_as by_file given

-- that no vote is made of what stands behind the file
abbrev pub by_vote : MakeVoteRefusal → FileVoteRefusal
by_vote why = refusal.Vote why

abbrev pub of_vote : Stop MakeVoteRefusal → Stop FileVoteRefusal
of_vote given = told_as by_vote given

-- that what stands behind the file is not what a station is given
abbrev pub by_fault : FrameFault → FileVoteRefusal
by_fault fault = refusal.Vote (station.by_fault fault)

-- the stop of a reading of what a station is given, as the command is told it
abbrev pub of_fault : Stop FrameFault → Stop FileVoteRefusal
of_fault given = told_as by_fault given
