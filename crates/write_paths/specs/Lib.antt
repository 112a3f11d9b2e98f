pub mod PathIndex
pub mod Listed
pub mod Arranged
