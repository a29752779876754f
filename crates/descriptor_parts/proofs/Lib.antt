pub mod ClearKinds
pub mod NoDocKinds
pub mod OneSection
pub mod DescriptorDocument
pub mod LastItem
pub mod OwnText
pub mod OwnFront
pub mod OfText
