pub mod CertificatePlaces
pub mod MicroPlaces
pub mod ConsensusLines
pub mod ConsensusPlaces
pub mod DocumentFaults
