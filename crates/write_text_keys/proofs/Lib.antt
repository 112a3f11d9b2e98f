pub mod Comparison
pub mod Digits
pub mod BackwardReads
pub mod NameRuns
pub mod Uses
pub mod Lengths
pub mod CanonicalPaths
