pub mod OneOf
pub mod Loads
pub mod Drafts
pub mod Counts
pub mod Numbers
