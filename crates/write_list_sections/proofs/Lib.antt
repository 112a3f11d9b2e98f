pub mod DefinitionWords
pub mod DefinitionLoops
pub mod ListLoops
pub mod ListWords
pub mod PayloadLoop
