pub mod ArgumentSteps
mod FirstBlank
pub mod Orders
pub mod Flags
pub mod WordSets
pub mod SetsAlone
mod FlagPlaces
pub mod Members
pub mod SetTexts
pub mod ArgumentWords
pub mod ListedFlags
pub mod NumberTexts
pub mod PortParts
pub mod PortTexts
pub mod Apart
pub mod RangeTexts
pub mod PortEntries
pub mod PortsAgain
pub mod VersionOrders
