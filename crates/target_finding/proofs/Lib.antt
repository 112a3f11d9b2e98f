pub mod Finding
pub mod EntryLoop
