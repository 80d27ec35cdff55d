pub mod Edits
pub mod Needs
