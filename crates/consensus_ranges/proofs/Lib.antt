pub mod LineRanges
pub mod ItemRanges
pub mod SectionRanges
pub mod RelayOrder
pub mod ConsensusRange
