pub mod Laws
pub mod ListProperties
pub mod OrderedLists
pub mod KeyOrder
pub mod MergeInPlace
pub mod NumberedWords
