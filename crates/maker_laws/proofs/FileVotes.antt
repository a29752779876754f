-- A vote that is made with a bandwidth file is read as what it was made to say.
use Rattle.std.{proofs.Common.{◌∙◌, List, sym, ap, subst}, specs.Prelude.All}
use Rattle.descriptor_laws.specs.ReadRanges.{DescriptorsReadAreInRange}
use Rattle.station_input.specs.declared.{frame_said.MeasuredRelay.MeasuredRelay, facts.StationFacts.StationFacts}
use Rattle.maker_laws.specs.{Ranges.IsMeasuredInRange, FileVotes.{FileVotesReadAsMade, ToldStationsAreStations}}
use Rattle.maker_laws.proofs.{MadeRead.read_as_made, ToldRanges.told_are}

pub told_stations : ToldStationsAreStations
told_stations station is = record {
  input = is.input;
  bytes = is.bytes;
  newest = is.newest;
  given = is.given;
  used = is.used;
  read = is.read;
  same =
      is.told
      ∙ ap (λ (measured : List MeasuredRelay). record is.given { measured = measured })
      (sym (ap (λ (told : StationFacts). told.measured) is.told));
  measured =
      subst (λ (told : StationFacts). All IsMeasuredInRange told.measured) (sym is.told)
      (told_are is.content is.file is.is_file is.given.measured);
}

pub read_with_file : DescriptorsReadAreInRange → FileVotesReadAsMade
read_with_file law front its rulings signature rest few basis signing fits =
    read_as_made law front its rulings signature rest few
    (record {
      station = told_stations its.station basis.station;
      schedule = basis.schedule;
      until = basis.until;
      moment = basis.moment;
      ascend = basis.ascend;
      few = basis.few;
      descriptors = basis.descriptors;
    })
    signing fits
