pub mod SetNode
pub mod SetLoop
pub mod RightEntries
pub mod AllResolved
