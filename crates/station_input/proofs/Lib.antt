pub mod KeptStations
