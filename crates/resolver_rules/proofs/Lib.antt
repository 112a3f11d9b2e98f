pub mod Paths
pub mod Tests
pub mod Targets
pub mod DivertEnds
pub mod ResolverRules
