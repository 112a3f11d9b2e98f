pub mod View
pub mod Shown
pub mod Found
pub mod Children
pub mod Lists
pub mod Answers
