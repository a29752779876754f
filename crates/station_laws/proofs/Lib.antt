pub mod FaultsStationPlaces
pub mod InputFaults
pub mod StationTables
pub mod KeptLines
