pub mod Written
pub mod DraftRules
pub mod Spelling
