pub mod AnswerWords
pub mod NodeViewWords
pub mod RecordWords
pub mod Lent
pub mod Exports
