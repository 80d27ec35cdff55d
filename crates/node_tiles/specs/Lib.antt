pub mod Held
pub mod Stated
pub mod Inputs
pub mod Reads
pub mod Jobs
