pub mod FormatLaws
pub mod Zeros
