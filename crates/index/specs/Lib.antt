pub mod Paths
pub mod Index
pub mod Parts
pub mod Extended
