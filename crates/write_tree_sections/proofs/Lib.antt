pub mod ChildWords
pub mod NamedWords
pub mod ByTag
pub mod Records
pub mod TextCounts
pub mod RecordWidth
pub mod FieldWords
pub mod NodeLoop
