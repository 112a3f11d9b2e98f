pub mod Load
pub mod Nodes
pub mod Needed
