pub mod Copied
pub mod Fetched
pub mod Rows
pub mod Lines
pub mod Samples
