pub mod Source
pub mod Needs
pub mod Draft
pub mod PathList
pub mod PathEntries
pub mod PathWindows
pub mod Shown
pub mod Numbering
