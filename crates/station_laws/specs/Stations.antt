-- What a station is given, as one of the kinds of documents.
use Rattle.document_laws.specs.{Clear.AreClear, Documents.AreExact, Sound.AreSound}
use Rattle.station_input.specs.Tables.{station_tables}

-- The tables of a station input are sound and clear, so that items are read as one exactly where they are its parts.
pub record StationsAreExact : Type 0 where
  pub sound : AreSound station_tables
  pub clear : AreClear station_tables
  pub exact : AreExact station_tables
