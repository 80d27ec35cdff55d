pub mod Inputs
pub mod Asked
pub mod Refusals
