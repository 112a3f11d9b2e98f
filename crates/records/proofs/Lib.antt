pub mod Tests
pub mod Texts
pub mod Lists
pub mod ByKind
pub mod PassedRules
