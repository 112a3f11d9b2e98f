pub mod Numbers
pub mod StoredTexts
pub mod FirstUses
pub mod OffsetLoop
pub mod OutputLoop
