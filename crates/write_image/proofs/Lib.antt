pub mod SectionLengths
pub mod CappedSums
pub mod SectionLayers
pub mod Premises
pub mod SectionRuns
