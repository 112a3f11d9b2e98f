pub mod Suffix
pub mod Paths
pub mod Index
pub mod Readers
pub mod Extended
