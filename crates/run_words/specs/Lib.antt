pub mod Meant
pub mod Parsing
