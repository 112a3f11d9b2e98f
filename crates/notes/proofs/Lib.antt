pub mod Hiding
pub mod NotesExactly
