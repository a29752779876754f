pub mod DescriptorPlaces
pub mod FamilyChecks
pub mod Fronts
pub mod KeptDescriptors
pub mod ReadUnder
